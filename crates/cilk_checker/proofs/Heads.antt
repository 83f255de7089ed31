-- The flow of a statement begins with the statement itself.
use Rattle.std.specs.Prelude.{◌≡◌, List, [], ◌∷◌, map, Option, Some, None}
use Rattle.std.proofs.Common.{refl, sym, ap, ◌∙◌, inl, inr}
use Rattle.std.specs.Option.{option_or}
use Rattle.cilk_tree.specs.declared.tree.Expr.{Expr}
use Rattle.cilk_tree.specs.declared.tree.Stmt.{Stmt, out-Stmt, map-Stmt, fold_out-Stmt}
use Rattle.cilk_tree.specs.declared.tree.Stmt.TheOpen as layer
use Rattle.cilk_tree.specs.declared.tree.Stmt.TheOpen.{Stmt-F}
use Rattle.cilk_tree.specs.declared.tree.Stmt.TheVariants as stmt
use Rattle.cilk_tree.specs.declared.tree.Stmt.TheVariants.{outs-If, outs-While, outs-Block}
use Rattle.cilk_tree.specs.Lawful.Flow.{Site, At, Then, Either, Loop, Part, sites, head_of, inside, in_order, after_list, flow_here, part_here, part_of}
use Rattle.cilk_tree.specs.Lawful.Scope.{Point}
use Rattle.cilk_checker.specs.declared.around.Around.{Around}
use Rattle.cilk_checker.specs.declared.refusal.CheckRefusal.{CheckRefusal}
use Rattle.cilk_checker.specs.Judged.{Judged, first_refusal, judged_site, judged_sites, refusal_at, Tells}

-- the site of a statement itself
abbrev pub site_of : Point → Stmt → Site
site_of point statement = record { point = point; head = head_of (out-Stmt statement) }

abbrev to_unit : {A : Type 0} → A → Unit {0}
to_unit x = tt

units : {A B : Type 0} (f : A → B) (xs : List A) → map to_unit (map f xs) ≡ map to_unit xs
units f [] = refl
units f (x ∷ xs) = ap (λ rest. tt ∷ rest) (units f xs)

-- these statements as parts of their function
abbrev pub parts : List Stmt → List Part
parts list = map part_of list

module _ (point : Point) where
  flow_if_here : (condition : Expr) (met unmet : List Stmt) → flow_here (layer.If condition (parts met) (parts unmet)) point
      ≡ Then (At (record { point = point; head = head_of (layer.If condition met unmet) })) (Either (in_order (parts met) (inside point)) (in_order (parts unmet) (after_list (parts met) (inside point))))
  flow_if_here condition met unmet = λ i. Then (At (record { point = point; head = layer.If condition (units part_of met i) (units part_of unmet i) })) (Either (in_order (parts met) (inside point)) (in_order (parts unmet) (after_list (parts met) (inside point))))

  flow_while_here : (condition : Expr) (body : List Stmt) → flow_here (layer.While condition (parts body)) point
      ≡ Loop (Then (At (record { point = point; head = head_of (layer.While condition body) })) (in_order (parts body) (inside point)))
  flow_while_here condition body = λ i. Loop (Then (At (record { point = point; head = layer.While condition (units part_of body i) })) (in_order (parts body) (inside point)))

  flow_block_here : (inner : List Stmt) → flow_here (layer.Block (parts inner)) point
      ≡ Then (At (record { point = point; head = head_of (layer.Block inner) })) (in_order (parts inner) (inside point))
  flow_block_here inner = λ i. Then (At (record { point = point; head = layer.Block (units part_of inner i) })) (in_order (parts inner) (inside point))

  pub part_is : (statement : Stmt) (here : Stmt-F Stmt) → out-Stmt statement ≡ here → part_of statement ≡ part_here (map-Stmt Stmt Part part_of here)
  part_is statement here is = fold_out-Stmt Part part_here statement ∙ ap (λ opened. part_here (map-Stmt Stmt Part part_of opened)) is

  begins_here : (statement : Stmt-F Stmt) → (more : List Site) × (sites (flow_here (map-Stmt Stmt Part part_of statement) point) ≡ record { point = point; head = head_of statement } ∷ more)
  begins_here (layer.Declare name) = ([], refl)
  begins_here (layer.Assign name value) = ([], refl)
  begins_here (layer.Put name index value) = ([], refl)
  begins_here (layer.Print value) = ([], refl)
  begins_here (layer.If condition met unmet) = (_, ap sites (flow_if_here condition met unmet))
  begins_here (layer.While condition body) = (_, ap sites (flow_while_here condition body))
  begins_here (layer.Block inner) = (_, ap sites (flow_block_here inner))
  begins_here (layer.Call target name arguments) = ([], refl)
  begins_here (layer.Spawn target name arguments) = ([], refl)
  begins_here (layer.Add target name index addend) = ([], refl)
  begins_here layer.Sync = ([], refl)
  begins_here (layer.Return value) = ([], refl)

  -- the first statement of its flow is the statement itself
  begins : (statement : Stmt) → (more : List Site) × (sites ((part_of statement).flow point) ≡ site_of point statement ∷ more)
  begins statement =
      let first = begins_here (out-Stmt statement) in
      (first.0, ap (λ part. sites (part.flow point)) (part_is statement (out-Stmt statement) refl) ∙ first.1)

  -- a refusal of the statement itself is one of its flow
  pub stops_at_head : (around : Around) (statement : Stmt) (refusal : CheckRefusal) → Tells (first_refusal (judged_sites around (At (site_of point statement)))) refusal → Tells (first_refusal (judged_sites around ((part_of statement).flow point))) refusal
  stops_at_head around statement refusal (inl memory) = inl memory
  stops_at_head around statement refusal (inr due) =
      inr (ap (λ row. first_refusal (map (judged_site around) row)) (begins statement).1 ∙ alone (judged_site around (site_of point statement)) (first_refusal (map (judged_site around) (begins statement).0)) due)
    where
      alone_of : (found rest : Option CheckRefusal) → option_or found None ≡ Some refusal → option_or found rest ≡ Some refusal
      alone_of None rest e = cc
      alone_of (Some found) rest e = e

      alone : (judged : Judged) (rest : Option CheckRefusal) → option_or (refusal_at judged.place judged.kinds) None ≡ Some refusal → option_or (refusal_at judged.place judged.kinds) rest ≡ Some refusal
      alone judged rest = alone_of (refusal_at judged.place judged.kinds) rest

  module _ (here : Point) (moved : here ≡ inside point) (statement : Stmt) where
    module _ (condition : Expr) (met unmet : List Stmt) (is : statement ≡ stmt.If condition met unmet) (between : Point) (next : between ≡ after_list (parts met) here) where
      opened : out-Stmt statement ≡ layer.If condition met unmet
      opened = ap out-Stmt is ∙ outs-If condition met unmet

      pub flow_if : (part_of statement).flow point ≡ Then (At (site_of point statement)) (Either (in_order (parts met) here) (in_order (parts unmet) between))
      flow_if = ap (λ part. part.flow point) (part_is statement (layer.If condition met unmet) opened) ∙ flow_if_here condition met unmet
          ∙ (λ i. Then (At (record { point = point; head = head_of (sym opened i) })) (Either (in_order (parts met) (sym moved i)) (in_order (parts unmet) (after_list (parts met) (sym moved i)))))
          ∙ ap (λ after. Then (At (site_of point statement)) (Either (in_order (parts met) here) (in_order (parts unmet) after))) (sym next)

      pub after_if : (part_of statement).after point ≡ after_list (parts unmet) between
      after_if = ap (λ part. part.after point) (part_is statement (layer.If condition met unmet) opened) ∙ ap (λ p. after_list (parts unmet) (after_list (parts met) p)) (sym moved) ∙ ap (after_list (parts unmet)) (sym next)

    module _ (condition : Expr) (body : List Stmt) (is : statement ≡ stmt.While condition body) where
      turning : out-Stmt statement ≡ layer.While condition body
      turning = ap out-Stmt is ∙ outs-While condition body

      pub flow_while : (part_of statement).flow point ≡ Loop (Then (At (site_of point statement)) (in_order (parts body) here))
      flow_while = ap (λ part. part.flow point) (part_is statement (layer.While condition body) turning) ∙ flow_while_here condition body
          ∙ (λ i. Loop (Then (At (record { point = point; head = head_of (sym turning i) })) (in_order (parts body) (sym moved i))))

      pub after_while : (part_of statement).after point ≡ after_list (parts body) here
      after_while = ap (λ part. part.after point) (part_is statement (layer.While condition body) turning) ∙ ap (after_list (parts body)) (sym moved)

    module _ (inner : List Stmt) (is : statement ≡ stmt.Block inner) where
      enclosing : out-Stmt statement ≡ layer.Block inner
      enclosing = ap out-Stmt is ∙ outs-Block inner

      pub flow_block : (part_of statement).flow point ≡ Then (At (site_of point statement)) (in_order (parts inner) here)
      flow_block = ap (λ part. part.flow point) (part_is statement (layer.Block inner) enclosing) ∙ flow_block_here inner
          ∙ (λ i. Then (At (record { point = point; head = head_of (sym enclosing i) })) (in_order (parts inner) (sym moved i)))

      pub after_block : (part_of statement).after point ≡ after_list (parts inner) here
      after_block = ap (λ part. part.after point) (part_is statement (layer.Block inner) enclosing) ∙ ap (after_list (parts inner)) (sym moved)
