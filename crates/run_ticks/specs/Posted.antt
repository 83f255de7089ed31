-- The Adds that are under way in a course: those that were posted, less those that their homes served.
use Rattle.std.specs.Prelude.{◌+◌, ◌-◌, if◌then◌else◌, ℕ, [], ◌∷◌}
use Rattle.page_messages.specs.declared.log.Item.{Item}
use Rattle.page_messages.specs.declared.log.Item.TheVariants as item
use Rattle.cluster_rules.specs.Walking.{is_empty}
use Rattle.cluster_rules.specs.Turns.{Event, Did, Sent, Past}
use Rattle.cluster_rules.specs.Sendings.{adds_in}
use Rattle.cluster_rules.specs.Home.{owed_adds}
use Rattle.cluster_rules.specs.Positions.{Course, own}

abbrev pub posts_add : Event → ℕ
posts_add (Sent message) = if adds_in message.body then 1 else 0
posts_add _ = 0

-- the Adds that were posted
abbrev pub adds_posted : Course → ℕ
adds_posted [] = 0
adds_posted (moved ∷ course) = adds_posted course + posts_add moved.event

-- A Served item is for another node where an add is owed.
abbrev pub serves_item : Item → Past → ℕ
serves_item (item.Served frame index word old addend) past = if is_empty (owed_adds past) then 0 else 1
serves_item _ past = 0

abbrev pub serves_add : Event → Past → ℕ
serves_add (Did item) past = serves_item item past
serves_add _ past = 0

-- those of them that their homes served
abbrev pub adds_served : Course → ℕ
adds_served [] = 0
adds_served (moved ∷ course) = adds_served course + serves_add moved.event (own moved.node course)

-- The Adds that were posted and not served.
abbrev pub adds_under_way : Course → ℕ
adds_under_way course = adds_posted course - adds_served course
