-- Searches for a proof, which compute: each gives one, or nothing. Here are those on plain data.
use Rattle.std.proofs.Common.{◌≡◌, ◌≢◌, ◌<◌, ◌≤◌, ℕ, ℤ, pos, negsuc, List, [], ◌∷◌, Option, Some, None, Bool, true, false, eqb, ltb, leb, refl, ap, ap₂, arith}
use Rattle.std.proofs.Common.{eqb-true, ltb-true, leb-true}
use Rattle.std.proofs.lemmas.Bool.Decides.{nat_tests}
use Rattle.cilk_meaning.specs.Wants.{Request, Read, Write, Add, Print, Spawn, Sync, Call, LoopTurn, Want, Asks, Returns, Traps}
use Rattle.cilk_meaning.specs.declared.ends.TrapKind.{TrapKind}
use Rattle.cilk_meaning.specs.declared.ends.TrapKind.TheVariants.{DivideByZero, IndexOutOfRange, Overflow, TooDeep}
use Rattle.page_messages.specs.declared.closure.FrameId.{FrameId}
use Rattle.page_messages.specs.declared.closure.JoinId.{JoinId}

infixl 20 ◌>>=◌
abbrev pub ◌>>=◌ : {A B : Type 0} → Option A → (A → Option B) → Option B
◌>>=◌ None next = None
◌>>=◌ (Some value) next = next value

-- the first that is found
abbrev pub or_try : {A : Type 0} → Option A → Option A → Option A
or_try None other = other
or_try (Some value) other = Some value

-- ---- tests

abbrev pub where_true : {P : Type 0} → (test : Bool) → (test ≡ true → P) → Option P
where_true true proof = Some (proof refl)
where_true false proof = None

abbrev pub holds : (test : Bool) → Option (test ≡ true)
holds test = where_true test (λ is. is)

abbrev pub fails : (test : Bool) → Option (test ≡ false)
fails true = None
fails false = Some refl

pub no_need : {P : Type 0} → false ≡ true → P
no_need is = absurd (cc)

-- a proof that is needed where the test holds
abbrev pub where_needed : {P : Type 0} → (test : Bool) → Option P → Option (test ≡ true → P)
where_needed true found = do
  proof ← found
  Some (λ is. proof)
where_needed false found = Some no_need

abbrev pub same : (a b : ℕ) → Option (a ≡ b)
same a b = where_true (eqb a b) (eqb-true a b)

pub apart : (a b : ℕ) → eqb a b ≡ false → a ≢ b
apart a b test is = absurd (grind (arith, nat_tests))

abbrev pub differ : (a b : ℕ) → Option (a ≢ b)
differ a b = do
  test ← fails (eqb a b)
  Some (apart a b test)

abbrev pub less : (a b : ℕ) → Option (a < b)
less a b = where_true (ltb a b) (ltb-true a b)

abbrev pub at_most : (a b : ℕ) → Option (a ≤ b)
at_most a b = where_true (leb a b) (leb-true a b)

-- ---- data

abbrev pub same_bool : (a b : Bool) → Option (a ≡ b)
same_bool true true = Some refl
same_bool true false = None
same_bool false true = None
same_bool false false = Some refl

abbrev pub same_int : (a b : ℤ) → Option (a ≡ b)
same_int (pos a) (pos b) = do
  is ← same a b
  Some (ap pos is)
same_int (pos a) (negsuc b) = None
same_int (negsuc a) (pos b) = None
same_int (negsuc a) (negsuc b) = do
  is ← same a b
  Some (ap negsuc is)

abbrev pub same_option : {A : Type 0} → ((a b : A) → Option (a ≡ b)) → (a b : Option A) → Option (a ≡ b)
same_option test None None = Some refl
same_option test None (Some b) = None
same_option test (Some a) None = None
same_option test (Some a) (Some b) = do
  is ← test a b
  Some (ap Some is)

abbrev pub same_list : {A : Type 0} → ((a b : A) → Option (a ≡ b)) → (xs ys : List A) → Option (xs ≡ ys)
same_list test [] [] = Some refl
same_list test [] (y ∷ ys) = None
same_list test (x ∷ xs) [] = None
same_list test (x ∷ xs) (y ∷ ys) = do
  first ← test x y
  rest ← same_list test xs ys
  Some (ap₂ (λ it others. it ∷ others) first rest)

abbrev pub found : {A : Type 0} → (option : Option A) → Option ((value : A) × (option ≡ Some value))
found None = None
found (Some value) = Some (value, refl)

abbrev pub is_none : {A : Type 0} → (option : Option A) → Option (option ≡ None)
is_none None = Some refl
is_none (Some value) = None

abbrev pub none : {A : Type 0} → (list : List A) → Option (list ≡ [])
none [] = Some refl
none (first ∷ rest) = None

abbrev pub split : {A : Type 0} → (list : List A) → Option ((first : A) × (rest : List A) × (list ≡ first ∷ rest))
split [] = None
split (first ∷ rest) = Some (first, rest, refl)

abbrev pub same_frame_id : (a b : FrameId) → Option (a ≡ b)
same_frame_id a b = do
  nodes ← same a.node b.node
  numbers ← same a.number b.number
  Some (λ i. record { node = nodes i; number = numbers i })

abbrev pub same_join_id : (a b : JoinId) → Option (a ≡ b)
same_join_id a b = do
  nodes ← same a.node b.node
  numbers ← same a.number b.number
  Some (λ i. record { node = nodes i; number = numbers i })

-- ---- wants

abbrev pub same_request : (a b : Request) → Option (a ≡ b)
same_request (Read word) (Read other) = do
  is ← same word other
  Some (ap Read is)
same_request (Write word value) (Write other given) = do
  words ← same word other
  values ← same_int value given
  Some (ap₂ Write words values)
same_request (Add word addend) (Add other given) = do
  words ← same word other
  values ← same_int addend given
  Some (ap₂ Add words values)
same_request (Print value) (Print given) = do
  is ← same_int value given
  Some (ap Print is)
same_request (Spawn target procedure arguments) (Spawn other called given) = do
  targets ← same_option same target other
  procedures ← same procedure called
  values ← same_list same_int arguments given
  Some (λ i. Spawn (targets i) (procedures i) (values i))
same_request Sync Sync = Some refl
same_request Call Call = Some refl
same_request LoopTurn LoopTurn = Some refl
same_request _ _ = None

abbrev pub asks : (wanted : Option Want) (request : Request) → Option (wanted ≡ Some (Asks request))
asks None request = None
asks (Some (Asks other)) request = do
  is ← same_request other request
  Some (ap (λ it. Some (Asks it)) is)
asks (Some (Returns value)) request = None
asks (Some (Traps kind)) request = None

abbrev pub gives_back : (wanted : Option Want) (value : ℤ) → Option (wanted ≡ Some (Returns value))
gives_back None value = None
gives_back (Some (Asks request)) value = None
gives_back (Some (Returns other)) value = do
  is ← same_int other value
  Some (ap (λ it. Some (Returns it)) is)
gives_back (Some (Traps kind)) value = None

-- the target of the child that is wanted
abbrev pub spawns : (wanted : Option Want) (procedure : ℕ) (arguments : List ℤ)
    → Option ((target : Option ℕ) × (wanted ≡ Some (Asks (Spawn target procedure arguments))))
spawns None procedure arguments = None
spawns (Some (Asks (Spawn target called given))) procedure arguments = do
  procedures ← same called procedure
  values ← same_list same_int given arguments
  Some (target, λ i. Some (Asks (Spawn target (procedures i) (values i))))
spawns (Some _) procedure arguments = None

abbrev pub same_trap : (a b : TrapKind) → Option (a ≡ b)
same_trap DivideByZero DivideByZero = Some refl
same_trap IndexOutOfRange IndexOutOfRange = Some refl
same_trap Overflow Overflow = Some refl
same_trap TooDeep TooDeep = Some refl
same_trap _ _ = None

abbrev pub ends_in : (wanted : Option Want) (kind : TrapKind) → Option (wanted ≡ Some (Traps kind))
ends_in None kind = None
ends_in (Some (Asks request)) kind = None
ends_in (Some (Returns value)) kind = None
ends_in (Some (Traps other)) kind = do
  is ← same_trap other kind
  Some (ap (λ it. Some (Traps it)) is)

-- the add that is wanted
abbrev pub adds : (wanted : Option Want) → Option ((word : ℕ) × (addend : ℤ) × (wanted ≡ Some (Asks (Add word addend))))
adds (Some (Asks (Add word addend))) = Some (word, addend, refl)
adds _ = None
