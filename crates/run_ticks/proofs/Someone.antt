-- Where Adds are under way, by any measure of messages, there is one of a frame and index that its sender waits for.
use Rattle.std.proofs.Common.{◌≡◌, ◌≤◌, inl, inr, ℕ, zero, suc, ◌<◌, List, [], ◌∷◌, true, refl, ◌∙◌, ap, arith}
use Rattle.page_messages.specs.declared.closure.FrameId.{FrameId}
use Rattle.page_messages.specs.declared.message.Msg.{Msg}
use Rattle.page_messages.specs.declared.message.Body.{Body}
use Rattle.page_messages.specs.declared.message.Body.TheVariants as body
use Rattle.cluster_rules.specs.Home.{owed_adds}
use Rattle.cluster_rules.specs.Positions.{Course, own}
use Rattle.cluster_rules.specs.Runs.{Cluster}
use Rattle.cluster_rules.specs.Sendings.{adds_in}
use Rattle.cluster_rules.proofs.Letters.{Letter, letters_of, amount_of}
use Rattle.cluster_rules.proofs.Summing.{sum_below, sum_one}
use Rattle.cluster_rules.proofs.Marks.{one, same_self}
use Rattle.cluster_rules.proofs.Testing.{own_number}
use Rattle.cluster_rules.proofs.UnderWay.{adds_body, add_from, amount_in, owed_at, waiting}
use Rattle.run_ticks.proofs.Asked.{some_of}

-- the message is such an Add
abbrev IsAddOf : Msg → Type 0
IsAddOf message = (frame : FrameId) × (index : ℕ) × (add_from message.sender frame index message ≡ 1)

add_of : (message : Msg) (said : Body) → message.body ≡ said → adds_in said ≡ true → IsAddOf message
add_of message (body.Fetch page) is adds = absurd (cc)
add_of message (body.Page page words) is adds = absurd (cc)
add_of message (body.Reconcile parts) is adds = absurd (cc)
add_of message body.Ack is adds = absurd (cc)
add_of message body.Ask is adds = absurd (cc)
add_of message (body.Grant closure) is adds = absurd (cc)
add_of message body.Refuse is adds = absurd (cc)
add_of message (body.Done join index value) is adds = absurd (cc)
add_of message (body.Park join closure) is adds = absurd (cc)
add_of message (body.Add frame index word addend) is adds =
    let amount : add_from message.sender frame index message ≡ one (adds_body message.sender frame index message.sender (body.Add frame index word addend)) =
    ap (λ it. one (adds_body message.sender frame index message.sender it)) is in
    (frame, index, amount ∙ rw (own_number message.sender, same_self frame, own_number index) refl)
add_of message (body.Added old) is adds = absurd (cc)

-- a message of this measure has so much of it, for the act that its sender waits for
abbrev SomeAdd : (Msg → ℕ) → ((Msg → ℕ) → ℕ) → Type 0
SomeAdd measure total = (message : Msg) × (1 ≤ measure message) × (frame : FrameId) × (index : ℕ) × (1 ≤ total (add_from message.sender frame index))

some_home : (count : ℕ) (amount : ℕ → ℕ) → 1 ≤ sum_below count amount → (number : ℕ) × (number < count) × (1 ≤ amount number)
some_home zero amount some = absurd (omega (arith, some))
some_home (suc count) amount some = elim (some_of (amount count) (sum_below count amount) some) [
  | inl here ↦ (count, omega arith, here)
  | inr rest ↦ let it = some_home count amount rest in let less = it.1 in (it.0, omega (arith, less), it.2)
]

-- where Adds alone are measured
module _ (measure : Msg → ℕ) (only : (message : Msg) → 1 ≤ measure message → adds_in message.body ≡ true) where
  some_owed : (adds : List Msg) → 1 ≤ amount_in measure adds → SomeAdd measure (λ amount. amount_in amount adds)
  some_owed [] some = absurd (omega (arith, some))
  some_owed (add ∷ later) some = elim (some_of (measure add) (amount_in measure later) some) [
    | inl here ↦ let it = add_of add add.body refl (only add here) in let amount = it.2 in (add, here, it.0, it.1, omega (arith, amount))
    | inr rest ↦ let it = some_owed later rest in let amount = it.4 in (it.0, it.1, it.2, it.3, omega (arith, amount))
  ]

  some_letter : (letters : List Letter) → 1 ≤ amount_of measure letters → SomeAdd measure (λ amount. amount_of amount letters)
  some_letter [] some = absurd (omega (arith, some))
  some_letter (letter ∷ letters) some = elim (some_of (measure letter.message) (amount_of measure letters) some) [
    | inl here ↦
        let it = add_of letter.message letter.message.body refl (only letter.message here) in let amount = it.2 in
        (letter.message, here, it.0, it.1, omega (arith, amount))
    | inr rest ↦ let it = some_letter letters rest in let amount = it.4 in (it.0, it.1, it.2, it.3, omega (arith, amount))
  ]

  pub some_waits : (cluster : Cluster) (course : Course) → 1 ≤ waiting measure cluster course → SomeAdd measure (λ amount. waiting amount cluster course)
  some_waits cluster course some =
      elim (some_of (sum_below cluster.config.nodes (owed_at cluster course measure)) (amount_of measure (letters_of course)) some) [
        | inl owed ↦
            let home = some_home cluster.config.nodes (owed_at cluster course measure) owed in
            let it = some_owed (owed_adds (own home.0 course)) home.2 in
            let amount = it.4 in
            let whole = sum_one cluster.config.nodes (owed_at cluster course (add_from it.0.sender it.2 it.3)) home.0 home.1 in
            (it.0, it.1, it.2, it.3, omega (arith, amount, whole))
        | inr travels ↦ let it = some_letter (letters_of course) travels in let amount = it.4 in (it.0, it.1, it.2, it.3, omega (arith, amount))
      ]
