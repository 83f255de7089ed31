-- Frames on a stack: where one of a list that was joined stands, and what a cut leaves above a frame.
use Rattle.std.proofs.Common.{◌≡◌, ◌⊎◌, inl, inr, List, [], ◌∷◌, ◌++◌, refl, sym, ◌∙◌, ap, subst}
use Rattle.page_messages.specs.declared.closure.FrameId.{FrameId}
use Rattle.backer_order.specs.Edges.{IsOn, Bottom}

pub mem_cases : (f : FrameId) (a b : List FrameId) → IsOn f (a ++ b) → IsOn f a ⊎ IsOn f b
mem_cases f [] b m = inr m
mem_cases f (x ∷ a) b (inl e) = inl (inl e)
mem_cases f (x ∷ a) b (inr m) = elim (mem_cases f a b m) [ inl k ↦ inl (inr k) | inr k ↦ inr k ]

pub mem_left : (f : FrameId) (a b : List FrameId) → IsOn f a → IsOn f (a ++ b)
mem_left f (x ∷ a) b (inl e) = inl e
mem_left f (x ∷ a) b (inr m) = inr (mem_left f a b m)
mem_left f [] b m = absurd m

pub mem_right : (f : FrameId) (a b : List FrameId) → IsOn f b → IsOn f (a ++ b)
mem_right f [] b m = m
mem_right f (x ∷ a) b m = inr (mem_right f a b m)

abbrev pub Distinct : List FrameId → Type 0
Distinct [] = Unit {0}
Distinct (x ∷ xs) = (IsOn x xs → ⊥) × Distinct xs

pub distinct_right : (a b : List FrameId) → Distinct (a ++ b) → Distinct b
distinct_right [] b d = d
distinct_right (x ∷ a) b d = distinct_right a b d.1

pub distinct_left : (a b : List FrameId) → Distinct (a ++ b) → Distinct a
distinct_left [] b d = tt
distinct_left (x ∷ a) b d = ((λ m. d.0 (mem_left x a b m)), distinct_left a b d.1)

pub apart_lists : (f : FrameId) (a b : List FrameId) → Distinct (a ++ b) → IsOn f a → IsOn f b → ⊥
apart_lists f (x ∷ a) b d (inl e) m = d.0 (mem_right x a b (subst (λ i. IsOn i b) (sym e) m))
apart_lists f (x ∷ a) b d (inr k) m = apart_lists f a b d.1 k m
apart_lists f [] b d k m = k

pub assoc : (a : List FrameId) (d f : FrameId) → a ++ d ∷ (f ∷ []) ≡ (a ++ d ∷ []) ++ f ∷ []
assoc [] d f = refl
assoc (x ∷ a) d f = ap (λ l. x ∷ l) (assoc a d f)

-- the frame above the bottom one is determined
pub bottom_same : (l a b : List FrameId) (d d' f f' : FrameId) → Bottom l d f a → Bottom l d' f' b → (d ≡ d') × (f ≡ f')
bottom_same l a b d d' f f' e e' = go a b (sym e ∙ e')
  where
    two : (x y : FrameId) (b : List FrameId) → x ∷ (y ∷ []) ≡ b ++ d' ∷ (f' ∷ []) → (x ≡ d') × (y ≡ f')
    two x y [] e = (cc, cc)
    two x y (z ∷ []) e = absurd cc
    two x y (z ∷ (u ∷ [])) e = absurd cc
    two x y (z ∷ (u ∷ (v ∷ b))) e = absurd cc

    go : (a b : List FrameId) → a ++ d ∷ (f ∷ []) ≡ b ++ d' ∷ (f' ∷ []) → (d ≡ d') × (f ≡ f')
    go [] b e = two d f b e
    go (x ∷ a) [] e = let (p, q) = back x a e in (p, q)
      where
        back : (x : FrameId) (a : List FrameId) → x ∷ (a ++ d ∷ (f ∷ [])) ≡ d' ∷ (f' ∷ []) → (d ≡ d') × (f ≡ f')
        back x [] e = absurd cc
        back x (y ∷ []) e = absurd cc
        back x (y ∷ (z ∷ a)) e = absurd cc
    go (x ∷ a) (y ∷ b) e = go a b (tail x y (a ++ d ∷ (f ∷ [])) (b ++ d' ∷ (f' ∷ [])) e)
      where
        tail : (x y : FrameId) (u v : List FrameId) → x ∷ u ≡ y ∷ v → u ≡ v
        tail x y u v e = cc

-- neighbours in a list that was cut
pub cut_front : (front above below back : List FrameId) (c f : FrameId) → front ++ c ∷ (f ∷ back) ≡ above ++ below →
    IsOn c above ⊎ ((rest : List FrameId) × (below ≡ rest ++ c ∷ (f ∷ back)))
cut_front front [] below back c f e = inr (front, sym e)
cut_front [] (x ∷ above) below back c f e = inl (inl cc)
cut_front (y ∷ front) (x ∷ above) below back c f e =
    elim (cut_front front above below back c f (tail e)) [ inl m ↦ inl (inr m) | inr r ↦ inr r ]
  where
    tail : y ∷ (front ++ c ∷ (f ∷ back)) ≡ x ∷ (above ++ below) → front ++ c ∷ (f ∷ back) ≡ above ++ below
    tail e = cc

pub cut_last : (front l back : List FrameId) (c f g : FrameId) → front ++ c ∷ (f ∷ back) ≡ l ++ g ∷ [] →
    ((f ≡ g) × (l ≡ front ++ c ∷ [])) ⊎ ((rest : List FrameId) × (l ≡ front ++ c ∷ (f ∷ rest)))
cut_last [] [] back c f g e = absurd cc
cut_last [] (x ∷ []) back c f g e = inl (cc, ap (λ i. i ∷ []) first)
  where
    first : x ≡ c
    first = cc
cut_last [] (x ∷ (y ∷ l)) back c f g e = inr (l, cc)
cut_last (z ∷ []) [] back c f g e = absurd cc
cut_last (z ∷ (u ∷ front)) [] back c f g e = absurd cc
cut_last (z ∷ front) (x ∷ l) back c f g e = elim (cut_last front l back c f g rest) [
  | inl (p, q) ↦ inl (p, head ∙ ap (λ i. z ∷ i) q)
  | inr (r, q) ↦ inr (r, head ∙ ap (λ i. z ∷ i) q)
]
  where
    rest : front ++ c ∷ (f ∷ back) ≡ l ++ g ∷ []
    rest = cc

    head : x ∷ l ≡ z ∷ l
    head = cc

pub mem_middle : (c : FrameId) (front back : List FrameId) → IsOn c (front ++ c ∷ back)
mem_middle c front back = mem_right c front (c ∷ back) (inl refl)
