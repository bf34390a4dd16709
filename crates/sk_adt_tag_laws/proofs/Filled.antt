-- A filling of an expansion that is tagged is tagged.
use Rattle.std.proofs.Common.{◌≡◌, ◌<◌, ℕ, zero, suc, ◌+◌, ◌-◌, Bool, true, false, List, [], ◌∷◌, ◌++◌, map, Option, Some, None, inl, inr, refl, sym, ap, subst, ◌∙◌, arith}
use Rattle.std.specs.Prelude.{nat_lt, slice_get, slice_index_or, ◌||◌, ◌==◌, option_map, ◌⊎◌}
use Rattle.std.proofs.lemmas.Bool.{ltb-true, eqb-false}
use Rattle.std.proofs.lemmas.Option.{slice_get-map}
use Rattle.sk_prog.specs.declared.stmt.PStmt.{PStmt}
use Rattle.sk_prog.specs.declared.prog.FunKind.{FunKind}
use Rattle.sk_prog.specs.declared.prog.FunKind.TheVariants as kind
use Rattle.sk_prog.specs.declared.prog.ParamDef.{ParamDef}
use Rattle.sk_prog.specs.declared.prog.Fun.{Fun}
use Rattle.sk_prog.specs.declared.prog.Prog.{Prog}
use Rattle.sk_types_rules.specs.Scope.{Signature, signature_of}
use Rattle.sk_model.specs.declared.expanded.Expanded.{Expanded}
use Rattle.sk_model.specs.Parts.{rank}
use Rattle.sk_model.specs.Stands.{Payment, is_called, body_standing, part_if, standing, all_paid}
use Rattle.sk_model.specs.Fill.{minimize_of, before_body, fill_stmts, stmts_count, fill_fun, fill_funs, fill}
use Rattle.sk_holes_laws.specs.Filling.{Every}
use Rattle.sk_holes_laws.specs.Callees.{is_ahead}
use Rattle.sk_holes_laws.proofs.Called.{body_called}
use Rattle.sk_holes_laws.proofs.Ranks.{marked, marked_there, filled_signatures, marks, called_stand, ordinary_stand}
use Rattle.sk_adt.specs.declared.algebraic.Algebraic.{Algebraic}
use Rattle.sk_adt.specs.Words.{each}
use Rattle.sk_adt_tags.specs.Tags.{Work, all_of, params_of, work, fun_breaks, breaks}
use Rattle.sk_adt_tag_laws.specs.Fillings.{CallsAreAhead, FilledStayTagged}
use Rattle.sk_adt_tag_laws.proofs.Follow.{none_first, none_second, none_both, all_track}
use Rattle.sk_adt_tag_laws.proofs.Rows.{Row, append_row}
use Rattle.sk_adt_tag_laws.proofs.Exprs.{again, Stays}
use Rattle.sk_adt_tag_laws.proofs.Stmts.{body_count, body_tracks, paid_tracks}

-- Lists

equal_self : (n : ℕ) → (n == n) ≡ true
equal_self n = go (n == n) refl
  where
    go : (b : Bool) → (n == n) ≡ b → b ≡ true
    go true e = refl
    go false e = absurd (eqb-false n n e refl)

-- what passes a test, and is among these, has this property
every_called : (P Q : ℕ → Type 0) (xs zs : List ℕ) → Every P xs → ((m : ℕ) → is_called xs m ≡ true → is_called zs m ≡ true) → ((m : ℕ) → is_called zs m ≡ true → P m → Q m) → Every Q xs
every_called P Q [] zs h sub k = tt
every_called P Q (x ∷ xs) zs h sub k =
    (k x (sub x (ap (λ b. b || is_called xs x) (equal_self x))) h.0, every_called P Q xs zs h.1 (λ m c. sub m (later (x == m) (is_called xs m) c)) k)
  where
    later : (a b : Bool) → b ≡ true → (a || b) ≡ true
    later true b h = refl
    later false b h = h

called_right : (xs ys : List ℕ) (m : ℕ) → is_called ys m ≡ true → is_called (xs ++ ys) m ≡ true
called_right [] ys m h = h
called_right (x ∷ xs) ys m h = go (x == m) (called_right xs ys m h)
  where
    go : (a : Bool) → is_called (xs ++ ys) m ≡ true → (a || is_called (xs ++ ys) m) ≡ true
    go true k = refl
    go false k = k

either : (a b : Bool) → (a || b) ≡ true → (a ≡ true) ⊎ (b ≡ true)
either true b h = inl refl
either false b h = inr h

-- Parameters under new numbers

abbrev sign_params : Option Signature → List ParamDef
sign_params None = []
sign_params (Some s) = s.params

params_are : (o : Option Fun) → params_of o ≡ sign_params (option_map signature_of o)
params_are None = refl
params_are (Some f) = refl

marked_none : {A : Type 0} (bs : List Bool) (xs : List A) (n : ℕ) → slice_get xs n ≡ None → slice_get (marked bs xs) (rank bs n) ≡ None
marked_none [] [] n h = refl
marked_none (true ∷ bs) [] n h = refl
marked_none (false ∷ bs) [] n h = refl
marked_none [] (y ∷ xs) n h = refl
marked_none (b ∷ bs) (y ∷ xs) zero h = cc
marked_none (true ∷ bs) (y ∷ xs) (suc n) h =
    let e : suc (rank bs n) ≡ 1 + rank bs n = omega arith in
    subst (λ m. slice_get (y ∷ marked bs xs) m ≡ None) e (marked_none bs xs n h)
marked_none (false ∷ bs) (y ∷ xs) (suc n) h =
    let e : rank bs n ≡ 0 + rank bs n = omega arith in
    subst (λ m. slice_get (marked bs xs) m ≡ None) e (marked_none bs xs n h)

module _ (types : List Algebraic) (x : Expanded) (values : List ℕ) (ahead : CallsAreAhead x) (paid : List Payment) where
  abbrev bs : List Bool
  bs = marks values x.ordinary [] 0 0 x.prog.funs

  abbrev made : List Fun
  made = fill_funs values (rank bs) (map minimize_of paid) bs x.prog.funs 0

  abbrev next : Prog
  next = again types x.prog made values (rank bs)

  abbrev Stay : ℕ → Type 0
  Stay m = Stays types x.prog made values (rank bs) m

  -- a function of this number, where it stands or is not there, has the parameters that it had
  by_sign : (m : ℕ) → slice_get (marked bs (map signature_of x.prog.funs)) (rank bs m) ≡ option_map signature_of (slice_get x.prog.funs m) → Stay m
  by_sign m e =
      let there : option_map signature_of (slice_get made (rank bs m)) ≡ option_map signature_of (slice_get x.prog.funs m) =
      sym (slice_get-map signature_of made (rank bs m)) ∙ ap (λ ss. slice_get ss (rank bs m)) (filled_signatures values (rank bs) (map minimize_of paid) bs x.prog.funs 0) ∙ e in
      params_are (slice_get x.prog.funs m) ∙ ap sign_params (sym there) ∙ sym (params_are (slice_get made (rank bs m)))

  stays : (m : ℕ) (o : Option Fun) → slice_get x.prog.funs m ≡ o → ((f : Fun) → o ≡ Some f → slice_index_or bs m false ≡ true) → Stay m
  stays m None is k = by_sign m (marked_none bs (map signature_of x.prog.funs) m (slice_get-map signature_of x.prog.funs m ∙ ap (option_map signature_of) is) ∙ sym (ap (option_map signature_of) is))
  stays m (Some f) is k = by_sign m (marked_there bs (map signature_of x.prog.funs) m (signature_of f) (slice_get-map signature_of x.prog.funs m ∙ ap (option_map signature_of) is) (k f refl) ∙ sym (ap (option_map signature_of) is))

  -- Functions from one with number n, of which the first site has place i

  abbrev inside : List ℕ → ℕ → ℕ → Fun → List ℕ
  inside called n i g = called ++ ((part_if (nat_lt n x.ordinary || is_called called n) (body_standing values g.body)).at i).called

  -- They are the functions from number n on, and they stand as all do.
  record Stretch (fs : List Fun) (called : List ℕ) (n i : ℕ) : Type 0 where
    there : (j : ℕ) (g : Fun) → slice_get fs j ≡ Some g → slice_get x.prog.funs (n + j) ≡ Some g
    back : (j : ℕ) (g : Fun) → slice_get x.prog.funs (n + j) ≡ Some g → slice_get fs j ≡ Some g
    same : (j : ℕ) → slice_index_or bs (n + j) false ≡ slice_index_or (marks values x.ordinary called n i fs) j false

  here : (g : Fun) (fs : List Fun) (called : List ℕ) (n i : ℕ) → Stretch (g ∷ fs) called n i → slice_get x.prog.funs n ≡ Some g
  here g fs called n i s = let e : n ≡ n + 0 = omega arith in ap (slice_get x.prog.funs) e ∙ s.there 0 g refl

  later : (g : Fun) (fs : List Fun) (called : List ℕ) (n i : ℕ) → Stretch (g ∷ fs) called n i → Stretch fs (inside called n i g) (n + 1) (i + (body_standing values g.body).count)
  later g fs called n i s = record {
    there = λ j k is. let e : n + suc j ≡ n + 1 + j = omega arith in ap (slice_get x.prog.funs) (sym e) ∙ s.there (suc j) k is;
    back = λ j k is. let e : n + suc j ≡ n + 1 + j = omega arith in s.back (suc j) k (ap (slice_get x.prog.funs) e ∙ is);
    same = λ j. let e : n + suc j ≡ n + 1 + j = omega arith in ap (λ m. slice_index_or bs m false) (sym e) ∙ s.same (suc j);
  }

  -- Calls that stand call functions that stand.
  called_stays : (g : Fun) (fs : List Fun) (called : List ℕ) (n i : ℕ) → Stretch (g ∷ fs) called n i → (nat_lt n x.ordinary || is_called called n) ≡ true → Every Stay ((body_standing values g.body).at i).called
  called_stays g fs called n i s stands =
      let xs : List ℕ = ((body_standing values g.body).at i).called in
      every_called (λ m. is_ahead x.ordinary n m ≡ true) Stay xs xs
      (body_called (is_ahead x.ordinary n) values g.body (ahead n g (here g fs called n i s)) i)
      (λ m c. c)
      (λ m c a. stays m (slice_get x.prog.funs m) refl (λ f k. by_place m c f k (either (nat_lt m x.ordinary) (nat_lt n m) a)))
    where
      by_place : (m : ℕ) → is_called ((body_standing values g.body).at i).called m ≡ true → (f : Fun) → slice_get x.prog.funs m ≡ Some f → (nat_lt m x.ordinary ≡ true) ⊎ (nat_lt n m ≡ true) → slice_index_or bs m false ≡ true
      by_place m c f k (inl a) = (ordinary_stand values x.ordinary x.prog.funs [] 0 0 m f k (let less : m < x.ordinary = ltb-true m x.ordinary a in omega (arith, less))).0
      by_place m c f k (inr a) =
          let less : n < m = ltb-true n m a in
          let j = m - n - 1 in
          let e : n + suc j ≡ m = omega (arith, less) in
          let d : n + 1 + j ≡ m = omega (arith, less) in
          let there : slice_get (g ∷ fs) (suc j) ≡ Some f = s.back (suc j) f (ap (slice_get x.prog.funs) e ∙ k) in
          let both = called_right called ((body_standing values g.body).at i).called m c in
          let now : is_called (inside called n i g) m ≡ true = subst (λ b. is_called (called ++ ((part_if b (body_standing values g.body)).at i).called) m ≡ true) (sym stands) both in
          let it = called_stand values x.ordinary fs (inside called n i g) (n + 1) (i + (body_standing values g.body).count) j f there (ap (is_called (inside called n i g)) d ∙ now) in
          ap (λ q. slice_index_or bs q false) (sym e) ∙ s.same (suc j) ∙ it

  -- Bodies

  abbrev after : PStmt → Work
  after p = work types next p

  payments : (a : Work) (ps : List Payment) → Row after a (map minimize_of ps)
  payments a [] = tt
  payments a (p ∷ ps) = (paid_tracks types x.prog made values (rank bs) a p, payments a ps)

  front : (a : Work) (k : FunKind) → Row after a (before_body k (map minimize_of paid))
  front a kind.Plain = tt
  front a kind.Harness = payments a paid
  front a kind.Generator = tt

  fun_none : (g : Fun) (i : ℕ) → Every Stay ((body_standing values g.body).at i).called → fun_breaks types x.prog g ≡ [] → fun_breaks types next (fill_fun values (rank bs) (map minimize_of paid) g i) ≡ []
  fun_none g i k none =
      let a : Work = all_of (map (work types x.prog) g.body) in
      let body : List PStmt = before_body g.kind (map minimize_of paid) ++ fill_stmts values (rank bs) g.body i in
      let rows = append_row after a (before_body g.kind (map minimize_of paid)) (fill_stmts values (rank bs) g.body i) (front a g.kind) (body_tracks types x.prog made values (rank bs) g.body i k) in
      (all_track a (map after body) rows).breaks [] [] (λ y j e. e) none

  abbrev filled : List Bool → List Fun → ℕ → List Fun
  filled ms fs i = fill_funs values (rank bs) (map minimize_of paid) ms fs i

  one_more : (g : Fun) (fs : List Fun) (called : List ℕ) (n i : ℕ) → Stretch (g ∷ fs) called n i → fun_breaks types x.prog g ≡ [] → (b : Bool) → (nat_lt n x.ordinary || is_called called n) ≡ b → (ms : List Bool)
      → each (map (fun_breaks types next) (filled ms fs (i + stmts_count values (rank bs) g.body))) ≡ [] → each (map (fun_breaks types next) (filled (b ∷ ms) (g ∷ fs) i)) ≡ []
  one_more g fs called n i s none true stands ms rest = none_both (fun_breaks types next (fill_fun values (rank bs) (map minimize_of paid) g i)) (each (map (fun_breaks types next) (filled ms fs (i + stmts_count values (rank bs) g.body)))) (fun_none g i (called_stays g fs called n i s stands) none) rest
  one_more g fs called n i s none false stands ms rest = rest

  funs_none : (fs : List Fun) (called : List ℕ) (n i : ℕ) → Stretch fs called n i → each (map (fun_breaks types x.prog) fs) ≡ [] → each (map (fun_breaks types next) (filled (marks values x.ordinary called n i fs) fs i)) ≡ []
  funs_none [] called n i s none = refl
  funs_none (g ∷ fs) called n i s none =
      let k = (body_standing values g.body).count in
      let ms : List Bool = marks values x.ordinary (inside called n i g) (n + 1) (i + k) fs in
      let one = none_first (fun_breaks types x.prog g) (each (map (fun_breaks types x.prog) fs)) none in
      let more = none_second (fun_breaks types x.prog g) (each (map (fun_breaks types x.prog) fs)) none in
      let rest = funs_none fs (inside called n i g) (n + 1) (i + k) (later g fs called n i s) more in
      one_more g fs called n i s one (nat_lt n x.ordinary || is_called called n) refl ms
      (subst (λ m. each (map (fun_breaks types next) (filled ms fs (i + m))) ≡ []) (body_count types x.prog made values (rank bs) g.body) rest)

  pub made_none : each (map (fun_breaks types x.prog) x.prog.funs) ≡ [] → each (map (fun_breaks types next) made) ≡ []
  made_none none =
      let start : Stretch x.prog.funs [] 0 0 = record { there = λ j g is. let e : j ≡ 0 + j = omega arith in ap (slice_get x.prog.funs) (sym e) ∙ is; back = λ j g is. let e : j ≡ 0 + j = omega arith in ap (slice_get x.prog.funs) e ∙ is; same = λ j. let e : 0 + j ≡ j = omega arith in ap (λ m. slice_index_or bs m false) e } in
      funs_none x.prog.funs [] 0 0 start none

pub filled_stay_tagged : FilledStayTagged
unfolding fill breaks
filled_stay_tagged types x choice ahead none = made_none types x choice.values ahead (all_paid (standing x choice.values)) none
