-- A filling keeps the rules.
use Rattle.std.proofs.Common.{◌≡◌, ◌<◌, ℕ, suc, ◌+◌, ◌-◌, Bool, true, false, ◌&&◌, ◌||◌, not, List, [], ◌∷◌, ◌++◌, map, Option, Some, None, inl, inr, refl, sym, ap, subst, ◌∙◌, arith, append_assoc}
use Rattle.std.specs.Prelude.{IsTrue, nat_lt, slice_get, slice_index_or, ◌==◌, option_map, ◌⊎◌}
use Rattle.std.specs.List.{list_all, list_any}
use Rattle.std.proofs.lemmas.Bool.{and_parts, ltb-true, eqb-false}
use Rattle.std.proofs.lemmas.Option.{slice_get-map}
use Rattle.sk_base.specs.declared.bounds.Bounds.{Bounds}
use Rattle.sk_tree.specs.declared.item.FunItem.{FunItem}
use Rattle.sk_tree.specs.declared.item.Item.{Item}
use Rattle.sk_tree.specs.declared.item.Item.TheVariants as item
use Rattle.sk_tree.specs.declared.item.Tree.{Tree}
use Rattle.sk_tree.specs.Placed.{fun_placed, item_placed}
use Rattle.sk_prog.specs.declared.stmt.PStmt.{PStmt}
use Rattle.sk_prog.specs.declared.prog.StructDef.{StructDef}
use Rattle.sk_prog.specs.declared.prog.ConstDef.{ConstDef}
use Rattle.sk_prog.specs.declared.prog.Fun.{Fun}
use Rattle.sk_prog.specs.declared.prog.Prog.{Prog}
use Rattle.sk_types_rules.specs.Rules.{in_range}
use Rattle.sk_types_rules.specs.Scope.{all_distinct, Signature, Known, Context, signature_of, top_of, top_names}
use Rattle.sk_types_rules.specs.Types.{FunMeans, ItemsMean, parameters, is_generator, names_free}
use Rattle.sk_types_rules.specs.Plain.{plain_fun, plain_items, item_steps}
use Rattle.sk_types_rules.specs.WellTyped.{expr_patterns, WellTyped}
use Rattle.sk_model.specs.declared.expanded.Site.{Site}
use Rattle.sk_model.specs.declared.expanded.Expanded.{Expanded}
use Rattle.sk_model.specs.declared.expanded.Choice.{Choice}
use Rattle.sk_model.specs.Parts.{joined, rank}
use Rattle.sk_model.specs.Sites.{stmts_sites, funs_sites, sites}
use Rattle.sk_model.specs.Stands.{Payment, is_called, body_standing, part_if, FunStanding, standing_from, standing, all_paid, funs_stand}
use Rattle.sk_model.specs.Filled.{expr_filled, fun_filled}
use Rattle.sk_model.specs.Fill.{Fits, InRange, minimize_of, stmts_count, fill_fun, fill_funs, fill}
use Rattle.sk_model.proofs.Complete.{filling_is_filled}
use Rattle.sk_prog.specs.Names.{struct_names, const_names, fun_names, all_names}
use Rattle.sk_prog.specs.Fits.{is_name, prog_fits}
use Rattle.sk_types_fit_laws.proofs.Whole.{well_formed}
use Rattle.sk_holes_laws.specs.Holes.{Below, AreWide}
use Rattle.sk_holes_laws.specs.Sizes.{SizedSignature, SizedFuns}
use Rattle.sk_holes_laws.specs.Filling.{context_with, signature_names, Every}
use Rattle.sk_holes_laws.specs.Fillings.{Filling, StandsIn, IsSet}
use Rattle.sk_holes_laws.specs.Callees.{is_ahead}
use Rattle.sk_holes_laws.specs.Expanded.{all_known, FunKeeps, IsExpanded, FilledMeans}
use Rattle.sk_holes_laws.proofs.Rows.{Counted, below_append, every_join}
use Rattle.sk_holes_laws.proofs.Stmts.{StmtOk, stmt_fills, rows_counted}
use Rattle.sk_holes_laws.proofs.Paid.{body_pays}
use Rattle.sk_holes_laws.proofs.Trees.{AllFine}
use Rattle.sk_holes_laws.proofs.Funs.{OrdinaryStay, fun_fills, body_is_plain, body_has_no_steps}
use Rattle.sk_holes_laws.proofs.Called.{body_called}
use Rattle.sk_holes_laws.proofs.Ranks.{marked, marked_named, marked_there, place_there, filled_signatures, marks, called_stand, ordinary_stand}
use Rattle.sk_holes_laws.proofs.NamesFilled.{funs_named}
use Rattle.sk_holes_laws.proofs.TreesNamed.{items_told}
use Rattle.sk_holes_laws.proofs.Patterns.{expr_holds, funs_hold}
use Rattle.sk_holes_laws.proofs.Tops.{params_sized, result_sized, structs_good, known_first, distinct_front, marked_map, consts_filled, FunsMean, items_then}

-- Lists

equal_self : (n : ℕ) → (n == n) ≡ true
equal_self n = go (n == n) refl
  where
    go : (b : Bool) → (n == n) ≡ b → b ≡ true
    go true e = refl
    go false e = absurd (eqb-false n n e refl)

-- what passes a test, and is among these, has this property
every_called : (P Q : ℕ → Type 0) (xs zs : List ℕ) → Every P xs → ((m : ℕ) → is_called xs m ≡ true → is_called zs m ≡ true) → ((m : ℕ) → is_called zs m ≡ true → P m → Q m) → Every Q xs
every_called P Q [] zs h sub k = tt
every_called P Q (x ∷ xs) zs h sub k =
    (k x (sub x (ap (λ b. b || is_called xs x) (equal_self x))) h.0, every_called P Q xs zs h.1 (λ m c. sub m (later (x == m) (is_called xs m) c)) k)
  where
    later : (a b : Bool) → b ≡ true → (a || b) ≡ true
    later true b h = refl
    later false b h = h

called_right : (xs ys : List ℕ) (m : ℕ) → is_called ys m ≡ true → is_called (xs ++ ys) m ≡ true
called_right [] ys m h = h
called_right (x ∷ xs) ys m h = go (x == m) (called_right xs ys m h)
  where
    go : (a : Bool) → is_called (xs ++ ys) m ≡ true → (a || is_called (xs ++ ys) m) ≡ true
    go true k = refl
    go false k = k

either : (a b : Bool) → (a || b) ≡ true → (a ≡ true) ⊎ (b ≡ true)
either true b h = inl refl
either false b h = inr h

pub below_fits : (values vs : List ℕ) (ss : List Site) (i : ℕ) → ((j : ℕ) → slice_index_or values (i + j) 0 ≡ slice_index_or vs j 0) → Fits ss vs → Below values i ss
below_fits values [] [] i same h = tt
below_fits values (v ∷ vs) [] i same h = absurd h
below_fits values [] (s ∷ ss) i same h = absurd h
below_fits values (v ∷ vs) (s ∷ ss) i same h =
    let e : i + 0 ≡ i = omega arith in
    let at : slice_index_or values i 0 ≡ v = ap (λ n. slice_index_or values n 0) (sym e) ∙ same 0 in (
      subst (λ n. n < s.size) (sym at) h.0,
      below_fits values vs ss (i + 1) (λ j. let d : i + 1 + j ≡ i + suc j = omega arith in ap (λ n. slice_index_or values n 0) d ∙ same (suc j)) h.1,
    )

some_of : {A B : Type 0} (v : A → B) (o : Option A) (y : B) → option_map v o ≡ Some y → (a : A) × (o ≡ Some a) × (v a ≡ y)
some_of v None y h = cc
some_of v (Some a) y h = let e : v a ≡ y = cc in (a, refl, e)

module _ (bounds : Bounds) (x : Expanded) (values : List ℕ) (wide : AreWide bounds) (h : IsExpanded bounds x) where
  abbrev bs : List Bool
  bs = marks values x.ordinary [] 0 0 x.prog.funs

  abbrev consts : List (List ℕ)
  consts = map (λ (c : ConstDef). c.name) x.prog.consts

  abbrev signs : List Signature
  signs = map signature_of x.prog.funs

  abbrev again : List Signature
  again = marked bs signs

  abbrev filling : List Known → Filling
  filling known = record { bounds = bounds; structs = x.prog.structs; consts = consts; funs = signs; again = again; known = known; all = all_known x.prog; stands = bs; values = values }

  sign_at : (n : ℕ) (f : Fun) → slice_get x.prog.funs n ≡ Some f → slice_get signs n ≡ Some (signature_of f)
  sign_at n f is = slice_get-map signature_of x.prog.funs n ∙ ap (option_map signature_of) is

  fun_at : (n : ℕ) (s : Signature) → slice_get signs n ≡ Some s → (f : Fun) × (slice_get x.prog.funs n ≡ Some f) × (signature_of f ≡ s)
  fun_at n s is = some_of signature_of (slice_get x.prog.funs n) s (sym (slice_get-map signature_of x.prog.funs n) ∙ is)

  signs_sized : SizedFuns signs
  signs_sized n s is =
      let f = fun_at n s is in
      let e = h.funs n f.0 f.1 in
      let keeps = e.keeps in
      let head = keeps.head in
      let context : Context = record { bounds = bounds; top = top_of x.prog; known = e.known } in
      subst SizedSignature f.2 (record { params = params_sized context (keeps.item).params (f.0).params head.params; result = result_sized context (keeps.item).result (f.0).result head.result })

  set : (known later : List Known) → known ++ later ≡ all_known x.prog → IsSet (filling known)
  set known later e = record {
    wide = wide;
    distinct = λ i d is. (structs_good bounds (top_of x.prog) h.items [] x.prog.structs x.prog.consts h.means i d is).distinct;
    fields = λ i d is. (structs_good bounds (top_of x.prog) h.items [] x.prog.structs x.prog.consts h.means i d is).sized;
    signatures = signs_sized;
    carries = record {
      named = λ y n at stands. let s = place_there signs y n at in marked_named bs signs y n at (stands s.0 s.1);
      there = λ n s at stands. marked_there bs signs n s at (stands s at);
    };
    knows = known_first known later (all_known x.prog) e;
  }

  ordinary_stay : (known : List Known) → OrdinaryStay (filling known) x.ordinary
  ordinary_stay known i s less at =
      let f = fun_at i s at in
      let o = ordinary_stand values x.ordinary x.prog.funs [] 0 0 i f.0 f.1 (omega (arith, less)) in
      ((λ r k. o.0), o.1)

  abbrev Good : Payment → Type 0
  Good p = in_range bounds p.amount ≡ true

  -- Functions from one with number n, of which the first site has place i

  abbrev inside : List ℕ → ℕ → ℕ → Fun → List ℕ
  inside called n i g = called ++ ((part_if (nat_lt n x.ordinary || is_called called n) (body_standing values g.body)).at i).called

  record Stretch (fs : List Fun) (called : List ℕ) (n i : ℕ) : Type 0 where
    there : (j : ℕ) (g : Fun) → slice_get fs j ≡ Some g → slice_get x.prog.funs (n + j) ≡ Some g
    back : (j : ℕ) (g : Fun) → slice_get x.prog.funs (n + j) ≡ Some g → slice_get fs j ≡ Some g
    same : (j : ℕ) → slice_index_or bs (n + j) false ≡ slice_index_or (marks values x.ordinary called n i fs) j false
    below : Below values i (funs_sites bounds fs)

  here : (g : Fun) (fs : List Fun) (called : List ℕ) (n i : ℕ) → Stretch (g ∷ fs) called n i → slice_get x.prog.funs n ≡ Some g
  here g fs called n i s = let e : n ≡ n + 0 = omega arith in ap (slice_get x.prog.funs) e ∙ s.there 0 g refl

  every_ok : (f : Filling) (setting : IsSet f) (ps : List PStmt) → Every (StmtOk f setting None tt) ps
  every_ok f setting [] = tt
  every_ok f setting (p ∷ ps) = (stmt_fills f setting None tt p, every_ok f setting ps)

  body_counted : (g : Fun) (n : ℕ) → slice_get x.prog.funs n ≡ Some g → Counted (stmts_sites bounds g.body) (body_standing values g.body) (stmts_count values (rank bs) g.body)
  body_counted g n is =
      let e = h.funs n g is in
      let setting = set e.known e.later e.constants in
      rows_counted (filling e.known) setting None tt g.body (every_ok (filling e.known) setting g.body)

  next : (g : Fun) (fs : List Fun) (called : List ℕ) (n i : ℕ) → Stretch (g ∷ fs) called n i → Stretch fs (inside called n i g) (n + 1) (i + (body_standing values g.body).count)
  next g fs called n i s =
      let c = body_counted g n (here g fs called n i s) in
      record {
        there = λ j k is. let e : n + suc j ≡ n + 1 + j = omega arith in ap (slice_get x.prog.funs) (sym e) ∙ s.there (suc j) k is;
        back = λ j k is. let e : n + suc j ≡ n + 1 + j = omega arith in s.back (suc j) k (ap (slice_get x.prog.funs) e ∙ is);
        same = λ j. let e : n + suc j ≡ n + 1 + j = omega arith in ap (λ m. slice_index_or bs m false) (sym e) ∙ s.same (suc j);
        below = subst (λ m. Below values (i + m) (funs_sites bounds fs)) (c.sites ∙ sym c.standing) (below_append values (stmts_sites bounds g.body) (funs_sites bounds fs) i s.below).1;
      }

  own_below : (g : Fun) (fs : List Fun) (called : List ℕ) (n i : ℕ) → Stretch (g ∷ fs) called n i → Below values i (stmts_sites bounds g.body)
  own_below g fs called n i s = (below_append values (stmts_sites bounds g.body) (funs_sites bounds fs) i s.below).0

  -- What is paid

  fun_pays : (g : Fun) (n i : ℕ) → slice_get x.prog.funs n ≡ Some g → Below values i (stmts_sites bounds g.body) → (b : Bool) → Every Good ((part_if b (body_standing values g.body)).at i).paid
  fun_pays g n i is below false = tt
  fun_pays g n i is below true =
      let e = h.funs n g is in
      let setting = set e.known e.later e.constants in
      body_pays (filling e.known) setting g.result (signs_sized n (signature_of g) (sign_at n g is)).result g.body 0 (parameters g.params) (e.keeps).body i below

  pays : (fs : List Fun) (called : List ℕ) (n i : ℕ) → Stretch fs called n i → Every Good (joined (map (λ (s : FunStanding). s.within.paid) (standing_from values x.ordinary called n i fs)))
  pays [] called n i s = tt
  pays (g ∷ fs) called n i s =
      every_join Good ((part_if (nat_lt n x.ordinary || is_called called n) (body_standing values g.body)).at i).paid _
      (fun_pays g n i (here g fs called n i s) (own_below g fs called n i s) (nat_lt n x.ordinary || is_called called n))
      (pays fs (inside called n i g) (n + 1) (i + (body_standing values g.body).count) (next g fs called n i s))

  -- Calls that stand call functions that stand.

  called_ok : (g : Fun) (fs : List Fun) (called : List ℕ) (n i : ℕ) (known : List Known) → Stretch (g ∷ fs) called n i → (nat_lt n x.ordinary || is_called called n) ≡ true
      → FunKeeps (record { bounds = bounds; top = top_of x.prog; known = known }) x.ordinary n g → Every (StandsIn (filling known)) ((body_standing values g.body).at i).called
  called_ok g fs called n i known s stands keeps =
      let xs : List ℕ = ((body_standing values g.body).at i).called in
      every_called (λ m. is_ahead x.ordinary n m ≡ true) (StandsIn (filling known)) xs xs
      (body_called (is_ahead x.ordinary n) values g.body keeps.calls i)
      (λ m c. c)
      (λ m c ahead r k. by_place m c r k (either (nat_lt m x.ordinary) (nat_lt n m) ahead))
    where
      by_place : (m : ℕ) → is_called ((body_standing values g.body).at i).called m ≡ true → (r : Signature) → slice_get signs m ≡ Some r → (nat_lt m x.ordinary ≡ true) ⊎ (nat_lt n m ≡ true) → IsTrue (slice_index_or bs m false)
      by_place m c r k (inl a) = (ordinary_stay known m r (ltb-true m x.ordinary a) k).0 r k
      by_place m c r k (inr a) =
          let less : n < m = ltb-true n m a in
          let j = m - n - 1 in
          let e : n + suc j ≡ m = omega (arith, less) in
          let d : n + 1 + j ≡ m = omega (arith, less) in
          let f = fun_at m r k in
          let there : slice_get (g ∷ fs) (suc j) ≡ Some f.0 = s.back (suc j) f.0 (ap (slice_get x.prog.funs) e ∙ f.1) in
          let both = called_right called ((body_standing values g.body).at i).called m c in
          let now : is_called (inside called n i g) m ≡ true = subst (λ b. is_called (called ++ ((part_if b (body_standing values g.body)).at i).called) m ≡ true) (sym stands) both in
          let it = called_stand values x.ordinary fs (inside called n i g) (n + 1) (i + (body_standing values g.body).count) j f.0 there (ap (is_called (inside called n i g)) d ∙ now) in
          ap (λ q. slice_index_or bs q false) (sym e) ∙ s.same (suc j) ∙ it

  -- Functions

  abbrev all_two : Context
  all_two = context_with bounds x.prog.structs consts again (all_known x.prog)

  record FunGood (q : Fun) : Type 0 where
    item : FunItem
    means : FunMeans all_two item q
    fine : AllFine item.body
    placed : fun_placed item ≡ true
    no_generator : is_generator q.kind ≡ false

  fun_good : (g : Fun) (fs : List Fun) (called : List ℕ) (n i : ℕ) → Stretch (g ∷ fs) called n i → (nat_lt n x.ordinary || is_called called n) ≡ true → (ps : List Payment) → Every Good ps → FunGood (fill_fun values (rank bs) (map minimize_of ps) g i)
  fun_good g fs called n i s stands ps paid =
      let is = here g fs called n i s in
      let e = h.funs n g is in
      let setting = set e.known e.later e.constants in
      let r = fun_fills (filling e.known) setting x.ordinary n g e.keeps (sign_at n g is) (ordinary_stay e.known) ps paid i (own_below g fs called n i s, called_ok g fs called n i e.known s stands e.keeps) in
      record { item = r.item; means = r.means; fine = r.fine; placed = r.placed; no_generator = (e.keeps).no_generator }

  one_more : (g : Fun) (fs : List Fun) (called : List ℕ) (n i : ℕ) → Stretch (g ∷ fs) called n i → (ps : List Payment) → Every Good ps → (b : Bool) → (nat_lt n x.ordinary || is_called called n) ≡ b → (ms : List Bool)
      → Every FunGood (fill_funs values (rank bs) (map minimize_of ps) ms fs (i + stmts_count values (rank bs) g.body)) → Every FunGood (fill_funs values (rank bs) (map minimize_of ps) (b ∷ ms) (g ∷ fs) i)
  one_more g fs called n i s ps paid true stands ms rest = (fun_good g fs called n i s stands ps paid, rest)
  one_more g fs called n i s ps paid false stands ms rest = rest

  funs_good : (fs : List Fun) (called : List ℕ) (n i : ℕ) → Stretch fs called n i → (ps : List Payment) → Every Good ps → Every FunGood (fill_funs values (rank bs) (map minimize_of ps) (marks values x.ordinary called n i fs) fs i)
  funs_good [] called n i s ps paid = tt
  funs_good (g ∷ fs) called n i s ps paid =
      let k = (body_standing values g.body).count in
      let ms : List Bool = marks values x.ordinary (inside called n i g) (n + 1) (i + k) fs in
      let rest = funs_good fs (inside called n i g) (n + 1) (i + k) (next g fs called n i s) ps paid in
      let c = body_counted g n (here g fs called n i s) in
      one_more g fs called n i s ps paid (nat_lt n x.ordinary || is_called called n) refl ms
      (subst (λ m. Every FunGood (fill_funs values (rank bs) (map minimize_of ps) ms fs (i + m))) c.standing rest)

  -- Items

  record Items (qs : List Fun) : Type 0 where
    items : List FunItem
    mean : FunsMean bounds x.prog.structs consts signs again (all_known x.prog) items qs
    plain : plain_items (map item.Fun items) ≡ map item.Fun items
    steps : list_all item_steps (map item.Fun items) ≡ true
    placed : list_all item_placed (map item.Fun items) ≡ true
    no_generator : list_any (λ (f : Fun). is_generator f.kind) qs ≡ false

  items_of : (qs : List Fun) → Every FunGood qs → Items qs
  items_of [] k = record { items = []; mean = tt; plain = refl; steps = refl; placed = refl; no_generator = refl }
  items_of (q ∷ qs) k =
      let rest = items_of qs k.1 in
      let one = k.0 in
      let g : FunItem = one.item in
      let plain : plain_fun g ≡ g = ap (λ body. record { kind = g.kind; result = g.result; name = g.name; params = g.params; implements = g.implements; body = body }) (body_is_plain g.body one.fine) in
      let steps = body_has_no_steps g.body one.fine in
      record {
        items = g ∷ rest.items;
        mean = (one.means, rest.mean);
        plain = λ i. item.Fun (plain i) ∷ rest.plain i;
        steps = λ i. steps i && rest.steps i;
        placed = λ i. one.placed i && rest.placed i;
        no_generator = λ i. one.no_generator i || rest.no_generator i;
      }

  front_plain : (is : List Item) (known : List Known) (ds : List StructDef) (cs : List ConstDef) → ItemsMean bounds (top_of x.prog) known is ds cs [] → (rest : List Item) → plain_items rest ≡ rest → plain_items (is ++ rest) ≡ is ++ rest
  front_plain [] known ds cs m rest e = e
  front_plain (item.Struct y ys ∷ is) known [] cs m rest e = absurd m
  front_plain (item.Struct y ys ∷ is) known (d ∷ ds) cs m rest e = ap (λ js. item.Struct y ys ∷ js) (front_plain is known ds cs m.1 rest e)
  front_plain (item.Const y v ∷ is) known ds [] m rest e = absurd m
  front_plain (item.Const y v ∷ is) known ds (c ∷ cs) m rest e = ap (λ js. item.Const y v ∷ js) (front_plain is (known ++ record { name = y; number = m.0 } ∷ []) ds cs m.2 rest e)
  front_plain (item.Fun g ∷ is) known ds cs m rest e = absurd m
  front_plain (item.Pragma w t ∷ is) known ds cs m rest e = absurd m

  front_steps : (is : List Item) (known : List Known) (ds : List StructDef) (cs : List ConstDef) → ItemsMean bounds (top_of x.prog) known is ds cs [] → (rest : List Item) → list_all item_steps rest ≡ true → list_all item_steps (is ++ rest) ≡ true
  front_steps [] known ds cs m rest e = e
  front_steps (item.Struct y ys ∷ is) known [] cs m rest e = absurd m
  front_steps (item.Struct y ys ∷ is) known (d ∷ ds) cs m rest e = front_steps is known ds cs m.1 rest e
  front_steps (item.Const y v ∷ is) known ds [] m rest e = absurd m
  front_steps (item.Const y v ∷ is) known ds (c ∷ cs) m rest e = front_steps is (known ++ record { name = y; number = m.0 } ∷ []) ds cs m.2 rest e
  front_steps (item.Fun g ∷ is) known ds cs m rest e = absurd m
  front_steps (item.Pragma w t ∷ is) known ds cs m rest e = absurd m

  front_placed : (is rest : List Item) → list_all item_placed is ≡ true → list_all item_placed rest ≡ true → list_all item_placed (is ++ rest) ≡ true
  front_placed [] rest a b = b
  front_placed (i ∷ is) rest a b =
      let c = and_parts (item_placed i) (list_all item_placed is) a in
      let more = front_placed is rest c.1 b in
      λ j. c.0 j && more j

  consts_hold : (prog : Prog) (cs : List ConstDef) → list_all (λ (c : ConstDef). expr_filled c.value) cs ≡ true → list_all (λ (c : ConstDef). expr_patterns prog c.value) cs ≡ true
  consts_hold prog [] e = refl
  consts_hold prog (c ∷ cs) e =
      let b = and_parts (expr_filled c.value) (list_all (λ (c : ConstDef). expr_filled c.value) cs) e in
      let one = expr_holds prog c.value b.0 in
      let more = consts_hold prog cs b.1 in
      λ i. one i && more i

  -- the filled program

  abbrev made : List Payment → List Fun
  made ps = fill_funs values (rank bs) (map minimize_of ps) bs x.prog.funs 0

  -- It keeps the rules by a tree that is plain.
  pub record Kept (prog : Prog) : Type 0 where
    pub well : WellTyped prog bounds
    pub plain : plain_items (well.tree).items ≡ (well.tree).items

  pub keeps_rules : Below values 0 (funs_sites bounds x.prog.funs) → list_all fun_filled (made (all_paid (standing x values))) ≡ true → Kept (record x.prog { funs = made (all_paid (standing x values)) })
  keeps_rules below filled =
      let start : Stretch x.prog.funs [] 0 0 = record { there = λ j g is. let e : j ≡ 0 + j = omega arith in ap (slice_get x.prog.funs) (sym e) ∙ is; back = λ j g is. let e : j ≡ 0 + j = omega arith in ap (slice_get x.prog.funs) e ∙ is; same = λ j. let e : 0 + j ≡ j = omega arith in ap (λ m. slice_index_or bs m false) e; below = below } in
      let ps : List Payment = all_paid (standing x values) in
      let paid = pays x.prog.funs [] 0 0 start in
      let r = items_of (made ps) (funs_good x.prog.funs [] 0 0 start ps paid) in
      let fs : List Item = map item.Fun r.items in
      let tree : Tree = record { items = h.items ++ fs } in
      let prog : Prog = record x.prog { funs = made ps } in
      let signs_are : map signature_of (made ps) ≡ again = filled_signatures values (rank bs) (map minimize_of ps) bs x.prog.funs 0 in
      let top_is : record { structs = x.prog.structs; consts = consts; funs = again } ≡ top_of prog = ap (λ funs. record { structs = x.prog.structs; consts = consts; funs = funs }) (sym signs_are) in
      let mean = items_then bounds x.prog.structs consts signs again h.items [] x.prog.structs x.prog.consts h.means r.items (made ps) r.mean in
      let plain_is : plain_items tree.items ≡ tree.items = front_plain h.items [] x.prog.structs x.prog.consts h.means fs r.plain in
      let structs_names : List (List ℕ) = map (λ (d : StructDef). d.name) x.prog.structs in
      let front = distinct_front (structs_names ++ consts) bs (signature_names signs) (ap all_distinct (append_assoc structs_names consts (signature_names signs)) ∙ h.distinct) in
      let names_are : top_names (record { structs = x.prog.structs; consts = consts; funs = again }) ≡ (structs_names ++ consts) ++ marked bs (signature_names signs) = ap (λ ns. structs_names ++ (consts ++ ns)) (marked_map (λ (s : Signature). s.name) bs signs) ∙ sym (append_assoc structs_names consts (marked bs (signature_names signs))) in
      let consts_ok = consts_hold prog x.prog.consts (consts_filled bounds x.prog.structs consts signs again h.items [] x.prog.structs x.prog.consts h.means) in
      let funs_ok = funs_hold prog (made ps) filled in
      let well : WellTyped prog bounds = record {
        tree = tree;
        placed = front_placed h.items fs h.placed r.placed;
        types = record {
          steps = front_steps h.items [] x.prog.structs x.prog.consts h.means fs r.steps;
          items = subst (λ is. ItemsMean bounds (top_of prog) [] is x.prog.structs x.prog.consts (made ps)) (sym plain_is) (subst (λ top. ItemsMean bounds top [] tree.items x.prog.structs x.prog.consts (made ps)) top_is mean);
          distinct = ap (λ top. all_distinct (top_names top)) (sym top_is) ∙ ap all_distinct names_are ∙ front;
          kept = ap (λ b. not b || names_free prog) r.no_generator;
        };
        patterns = λ i. consts_ok i && funs_ok i;
      } in
      record { well = well; plain = plain_is }

filling_keeps : (bounds : Bounds) (x : Expanded) (a : Choice) → AreWide bounds → IsExpanded bounds x → InRange x a → WellTyped (fill x a) bounds
unfolding fill
filling_keeps bounds x a wide h range =
    let fits = subst (λ ss. Fits ss a.values) h.sites range.fits in
    let below = below_fits a.values a.values (sites bounds x.prog) 0 (λ j. let e : 0 + j ≡ j = omega arith in ap (λ n. slice_index_or a.values n 0) e) fits in
    (keeps_rules bounds x a.values wide h below (filling_is_filled x a)).well

-- It is well-formed, too.

const_values : (bounds : Bounds) (x : Expanded) → IsExpanded bounds x → list_all (λ (c : ConstDef). expr_filled c.value) x.prog.consts ≡ true
const_values bounds x h = consts_filled bounds x.prog.structs (map (λ (c : ConstDef). c.name) x.prog.consts) (map signature_of x.prog.funs) (map signature_of x.prog.funs) h.items [] x.prog.structs x.prog.consts h.means

kept_fits : (bounds : Bounds) (x : Expanded) (values : List ℕ) (wide : AreWide bounds) (h : IsExpanded bounds x) → (fs : List Fun) → list_all fun_filled fs ≡ true → list_all (fun_names is_name) fs ≡ true → Kept bounds x values wide h (record x.prog { funs = fs }) → IsTrue (prog_fits (record x.prog { funs = fs }))
kept_fits bounds x values wide h fs filled named k =
    let prog : Prog = record x.prog { funs = fs } in
    let a = and_parts (list_all (struct_names is_name) x.prog.structs) (list_all (const_names is_name) x.prog.consts && list_all (fun_names is_name) x.prog.funs) h.words in
    let b = and_parts (list_all (const_names is_name) x.prog.consts) (list_all (fun_names is_name) x.prog.funs) a.1 in
    let words : all_names is_name prog ≡ true = λ i. a.0 i && (b.0 i && named i) in
    let well = k.well in
    let mean = subst (λ is. ItemsMean bounds (top_of prog) [] is x.prog.structs x.prog.consts fs) k.plain (well.types).items in
    let told = items_told is_name prog words bounds (well.tree).items [] refl x.prog.structs x.prog.consts fs mean a.0 b.0 named (const_values bounds x h) filled in
    well_formed bounds well.tree prog told well.types

filling_fits : (bounds : Bounds) (x : Expanded) (a : Choice) → AreWide bounds → IsExpanded bounds x → InRange x a → IsTrue (prog_fits (fill x a))
unfolding fill
filling_fits bounds x a wide h range =
    let fits = subst (λ ss. Fits ss a.values) h.sites range.fits in
    let below = below_fits a.values a.values (sites bounds x.prog) 0 (λ j. let e : 0 + j ≡ j = omega arith in ap (λ n. slice_index_or a.values n 0) e) fits in
    let c = and_parts (list_all (struct_names is_name) x.prog.structs) (list_all (const_names is_name) x.prog.consts && list_all (fun_names is_name) x.prog.funs) h.words in
    let d = and_parts (list_all (const_names is_name) x.prog.consts) (list_all (fun_names is_name) x.prog.funs) c.1 in
    let ss : List FunStanding = standing x a.values in
    let fs : List Fun = fill_funs a.values (rank (funs_stand ss)) (map minimize_of (all_paid ss)) (funs_stand ss) x.prog.funs 0 in
    let named : list_all (fun_names is_name) fs ≡ true = funs_named is_name a.values (rank (funs_stand ss)) (all_paid ss) (funs_stand ss) x.prog.funs 0 d.1 in
    kept_fits bounds x a.values wide h fs (filling_is_filled x a) named (keeps_rules bounds x a.values wide h below (filling_is_filled x a))

pub filled_means : FilledMeans
filled_means bounds x a wide h range = (filling_keeps bounds x a wide h range, filling_fits bounds x a wide h range)
