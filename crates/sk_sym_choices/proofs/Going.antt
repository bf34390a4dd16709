-- The payments of a program, function by function.
use Rattle.std.proofs.Common.{◌≡◌, ℕ, zero, suc, ◌+◌, ◌<◌, ◌≤◌, Bool, true, false, List, [], ◌∷◌, ◌++◌, map, length, length-append, drop, get_or, replicate, Option, refl, sym, ap, subst, ◌∙◌, append_assoc, arith}
use Rattle.std.specs.Prelude.{◌||◌, nat_lt}
use Rattle.std.specs.Option.{option_copied}
use Rattle.std.proofs.lemmas.List.{append-nil, drop_more, drop_all, length-replicate}
use Rattle.sk_base.specs.declared.bounds.Bounds.{Bounds}
use Rattle.sk_dag.specs.declared.env.Env.{Env}
use Rattle.sk_dag.specs.declared.node.BoolId.{BoolId}
use Rattle.sk_dag.specs.Graph.{Graph, Grows}
use Rattle.sk_dag.specs.Eval.{bool_value, Keeps}
use Rattle.sk_prog.specs.declared.prog.Fun.{Fun}
use Rattle.sk_model.specs.declared.expanded.Choice.{Choice}
use Rattle.sk_model.specs.declared.expanded.Expanded.{Expanded}
use Rattle.sk_model.specs.declared.expanded.Site.{Site}
use Rattle.sk_model.specs.Parts.{total}
use Rattle.sk_model.specs.Sites.{sites, stmts_sites, funs_sites}
use Rattle.sk_model.specs.Stands.{is_called, standing, all_paid}
use Rattle.sk_model.specs.Stands.{Payment as Amount}
use Rattle.sk_model.specs.Fill.{Fits, InRange}
use Rattle.sk_sym_folds.specs.Chosen.{chosen_values}
use Rattle.sk_holes_standing.specs.Marks.{marked}
use Rattle.sk_holes_standing.specs.Functions.{stands_by}
use Rattle.sk_holes_standing.proofs.StandLaws.{Agrees, agrees_more, none_agrees, marked_length}
use Rattle.sk_expand_sites.specs.Needs.{HasItsSites}
use Rattle.sk_expand_sites.proofs.StmtCounts.{body_sited}
use Rattle.sk_sym_choices.specs.declared.payment.Payment.{Payment}
use Rattle.sk_sym_choices.specs.declared.payer.Payer.{Payer}
use Rattle.sk_sym_choices.specs.Guards.{Guarded, called_under, paid_under}
use Rattle.sk_sym_choices.specs.Orders.{values_of, AllThere, IsGiven}
use Rattle.sk_sym_choices.specs.Programs.{kept, guards_of, paid_from}
use Rattle.sk_sym_choices.specs.Payments.{amounts, AllOwed, ArePayments, choice_in, values_for, IsLater, AreMarked, AreOwed, StandsBy, IsTurned, count_of, PaysAll}
use Rattle.sk_sym_choices.specs.Sizes.{AreInRange}
use Rattle.sk_sym_choices.proofs.Ledger.{later_keeps, owed_keeps, owed_nothing}
use Rattle.sk_sym_choices.proofs.Programs.{program_pays}
use Rattle.sk_sym_choices.proofs.Trees.{says_body}
use Rattle.sk_sym_choices.proofs.Turns.{values_replicate, there_keeps, there_replicate}

-- What is known behind the first n functions, whose sites end at place i, under a choice.
pub record Reached (values : List ℕ) (ordinary : ℕ) (funs : List Fun) (table : List Bool) (paid : List Amount) (n i : ℕ) : Type 0 where
  pub called : List ℕ
  pub agrees : Agrees table called
  pub width : length table ≡ length funs
  pub pays : paid ++ paid_from values ordinary called n i (drop n funs) ≡ paid_from values ordinary [] 0 0 funs

reached_first : (values : List ℕ) (ordinary : ℕ) (funs : List Fun) → Reached values ordinary funs (replicate (length funs) false) [] 0 0
reached_first values ordinary funs = record {
  called = [];
  agrees = none_agrees (length funs);
  width = length-replicate (length funs) false;
  pays = refl;
}

-- what is paid from a function on
split_paid : (values : List ℕ) (ordinary : ℕ) (table : List Bool) (called : List ℕ) (n i : ℕ) (f : Fun) (fs : List Fun) → Agrees table called → n < length table
    → paid_from values ordinary called n i (f ∷ fs) ≡ (let b = stands_by ordinary table n in let g = (guards_of f).at i [] in kept b (paid_under values g.owed) ++ paid_from values ordinary (called ++ kept b (called_under values g.called)) (n + 1) (i + (guards_of f).count) fs)
split_paid values ordinary table called n i f fs h l =
    let g : Guarded = (guards_of f).at i [] in
    ap (λ (c : Bool). let b = nat_lt n ordinary || c in kept b (paid_under values g.owed) ++ paid_from values ordinary (called ++ kept b (called_under values g.called)) (n + 1) (i + (guards_of f).count) fs) (sym (h.says n l))

reached_more : (values : List ℕ) (ordinary : ℕ) (funs : List Fun) (table table' : List Bool) (paid paid' : List Amount) (n i : ℕ) (f : Fun)
    → n < length funs → f ≡ get_or funs n f → Reached values ordinary funs table paid n i
    → table' ≡ marked table (kept (stands_by ordinary table n) (called_under values ((guards_of f).at i []).called))
    → paid' ≡ paid ++ kept (stands_by ordinary table n) (paid_under values ((guards_of f).at i []).owed)
    → Reached values ordinary funs table' paid' (n + 1) (i + (guards_of f).count)
reached_more values ordinary funs table table' paid paid' n i f below item h marks pays =
    let b : Bool = stands_by ordinary table n in
    let g : Guarded = (guards_of f).at i [] in
    let fs : List Fun = drop (n + 1) funs in
    let calls : List ℕ = kept b (called_under values g.called) in
    let owed : List Amount = kept b (paid_under values g.owed) in
    let rest : List Amount = paid_from values ordinary (h.called ++ calls) (n + 1) (i + (guards_of f).count) fs in
    let split : drop n funs ≡ f ∷ fs = drop_more funs n f below ∙ ap (λ k. k ∷ fs) (sym item) in
    let walk : paid_from values ordinary h.called n i (drop n funs) ≡ owed ++ rest = ap (λ gs. paid_from values ordinary h.called n i gs) split ∙ split_paid values ordinary table h.called n i f fs h.agrees (omega (arith, below, h.width)) in
    record {
      called = h.called ++ calls;
      agrees = subst (λ (t : List Bool). Agrees t (h.called ++ calls)) (sym marks) (agrees_more table h.called calls h.agrees);
      width = ap length marks ∙ marked_length table calls ∙ h.width;
      pays = ap (λ xs. xs ++ rest) pays ∙ append_assoc paid owed rest ∙ ap (λ xs. paid ++ xs) (sym walk) ∙ h.pays;
    }

-- What is known behind the first n functions, whose sites end at place i.
pub record Walked (p : Payer) (funs : List Fun) (d : Graph) (table : List BoolId) (made : List Payment) (n i : ℕ) : Type 0 where
  pub there : AllThere d table
  pub owed : AllOwed d made
  pub place : i + total (map count_of (drop n funs)) ≡ total (map count_of funs)
  pub reached : (g : Graph) (e : Env) → IsLater p d g e → Reached (values_for p e) p.ordinary funs (values_of g e table) (amounts g e (values_for p e) made) n i

-- none is behind
pub walked_first : {p : Payer} {d : Graph} (funs : List Fun) → IsGiven d p.never false → Walked p funs d (replicate (length funs) p.never) [] 0 0
walked_first {p} {d} funs never = record {
  there = there_replicate (length funs) p.never never.there;
  owed = owed_nothing d;
  place = omega arith;
  reached = λ g e l.
      let same : values_of g e (replicate (length funs) p.never) ≡ replicate (length funs) false = values_replicate g e (length funs) p.never ∙ ap (λ b. replicate (length funs) b) (never.value g l.grows e) in
      subst (λ (t : List Bool). Reached (values_for p e) p.ordinary funs t [] 0 0) (sym same) (reached_first (values_for p e) p.ordinary funs);
}

-- one more function
pub walked_more : {p : Payer} {funs : List Fun} {d0 d1 : Graph} {table table' : List BoolId} {made made' : List Payment} (n i j : ℕ) (f : Fun)
    → n < length funs → f ≡ get_or funs n f → Walked p funs d0 table made n i → Keeps d0 d1
    → IsTurned p d1 n i f table table' made made' → j ≡ i + (guards_of f).count
    → Walked p funs d1 table' made' (n + 1) j
walked_more {p} {funs} {d0} {d1} {table} {table'} {made} {made'} n i j f below item h keeps turned place = record {
  there = turned.there;
  owed = turned.owed;
  place = let split : total (map count_of (drop n funs)) ≡ (guards_of f).count + total (map count_of (drop (n + 1) funs)) = ap (λ gs. total (map count_of gs)) (drop_more funs n f below ∙ ap (λ k. k ∷ drop (n + 1) funs) (sym item)) in omega (arith, split, place, h.place);
  reached = λ g e l.
      subst (λ (k : ℕ). Reached (values_for p e) p.ordinary funs (values_of g e table') (amounts g e (values_for p e) made') (n + 1) k) (sym place)
      (reached_more (values_for p e) p.ordinary funs (values_of g e table) (values_of g e table') (amounts g e (values_for p e) made) (amounts g e (values_for p e) made') n i f below item (h.reached g e (later_keeps keeps l)) (turned.marks g e l) (turned.pays g e l));
}

-- the sites of one more function are among all
pub walked_room : {p : Payer} {funs : List Fun} {d : Graph} {table : List BoolId} {made : List Payment} (n i : ℕ) (f : Fun) (many : ℕ)
    → n < length funs → f ≡ get_or funs n f → Walked p funs d table made n i → total (map count_of funs) ≤ many → i + (guards_of f).count ≤ many
walked_room {p} {funs} {d} {table} {made} n i f many below item h room =
    let split : total (map count_of (drop n funs)) ≡ (guards_of f).count + total (map count_of (drop (n + 1) funs)) = ap (λ gs. total (map count_of gs)) (drop_more funs n f below ∙ ap (λ k. k ∷ drop (n + 1) funs) (sym item)) in
    omega (arith, split, h.place, room)

-- all are behind
pub walked_all : {p : Payer} {funs : List Fun} {d : Graph} {table : List BoolId} {made : List Payment} (n i : ℕ)
    → length funs ≤ n → Walked p funs d table made n i → PaysAll p d funs made
walked_all {p} {funs} {d} {table} {made} n i end h = record {
  there = h.owed;
  value = λ g e l.
      let r = h.reached g e l in
      sym (append-nil (amounts g e (values_for p e) made))
      ∙ ap (λ gs. amounts g e (values_for p e) made ++ paid_from (values_for p e) p.ordinary r.called n i gs) (sym (drop_all n funs end))
      ∙ r.pays;
}

-- ---- the program

total_guards : (bounds : Bounds) (fs : List Fun) → total (map count_of fs) ≡ length (funs_sites bounds fs)
total_guards bounds [] = refl
total_guards bounds (f ∷ fs) =
    let h = body_sited bounds [] (λ n. n) f.body in
    let says = says_body [] f.body in
    (λ j. says.count j + total_guards bounds fs j)
    ∙ ap (λ n. n + length (funs_sites bounds fs)) h.stands
    ∙ sym (length-append (stmts_sites bounds f.body) (funs_sites bounds fs))

-- there are sites for all functions
pub enough : (e : Expanded) → HasItsSites e → total (map count_of e.prog.funs) ≤ length e.sites
enough e has =
    let all = total_guards has.bounds e.prog.funs in
    let listed : length e.sites ≡ length (sites has.bounds e.prog) = ap length has.listed in
    omega (arith, all, listed)

fits_each : (ss : List Site) (vs : List ℕ) → Fits ss vs → (i : ℕ) (other : Site) → i < length ss → get_or vs i 0 < (get_or ss i other).size
fits_each [] [] h i other l = absurd (omega (arith, l))
fits_each [] (v ∷ vs) h i other l = absurd h
fits_each (s ∷ ss) [] h i other l = absurd h
fits_each (s ∷ ss) (v ∷ vs) h zero other l = h.0
fits_each (s ∷ ss) (v ∷ vs) h (suc i) other l = fits_each ss vs h.1 i other (omega (arith, l))

-- the values of a choice in range are below the sizes of their sites
pub in_range : (e : Expanded) (a : Choice) → InRange e a → AreInRange e.sites a.values
in_range e a h = record { each = fits_each e.sites a.values h.fits }

-- what is paid is what all minrepeats that stand pay
pub paid_by_all : {p : Payer} {d : Graph} {funs : List Fun} {made : List Payment} (e : Expanded) (given : Option Choice)
    → PaysAll p d funs made → funs ≡ e.prog.funs → p.sites.now ≡ e.sites → option_copied p.chosen ≡ given → p.ordinary ≡ e.ordinary → ArePayments d e given made
paid_by_all {p} {d} {funs} {made} e given h all listed chosen ordinary = record {
  there = h.there;
  value = λ g grows env range.
      let same : values_for p env ≡ chosen_values given env = ap (λ (c : Option Choice). chosen_values c env) chosen in
      let fits : AreInRange p.sites.now (values_for p env) = subst (λ (ss : List Site). AreInRange ss (values_for p env)) (sym listed) (subst (λ (vs : List ℕ). AreInRange e.sites vs) (sym same) (in_range e (choice_in given env) range)) in
      ap (λ vs. amounts g env vs made) (sym same)
      ∙ h.value g env (record { grows = grows; range = fits })
      ∙ ap (λ fs. paid_from (values_for p env) p.ordinary [] 0 0 fs) all
      ∙ ap (λ o. paid_from (values_for p env) o [] 0 0 e.prog.funs) ordinary
      ∙ ap (λ vs. paid_from vs e.ordinary [] 0 0 e.prog.funs) same
      ∙ program_pays e (chosen_values given env);
}

-- ---- one function

-- what is called and paid where its node holds is what is where it stands
pub turned_by : {p : Payer} {d0 d1 : Graph} {table table' : List BoolId} {made made' : List Payment} (n i : ℕ) (f : Fun) (node : BoolId)
    → StandsBy p d0 table n node → Keeps d0 d1
    → AreMarked p d1 node ((guards_of f).at i []).called table table' → AreOwed p d1 node ((guards_of f).at i []).owed made made'
    → IsTurned p d1 n i f table table' made made'
turned_by {p} {d0} {d1} {table} {table'} {made} {made'} n i f node stands keeps marks pays = record {
  there = marks.there;
  owed = pays.there;
  marks = λ g e l. marks.value g e l ∙ ap (λ b. marked (values_of g e table) (kept b (called_under (values_for p e) ((guards_of f).at i []).called))) (stands.value g e (later_keeps keeps l));
  pays = λ g e l. pays.value g e l ∙ ap (λ b. amounts g e (values_for p e) made ++ kept b (paid_under (values_for p e) ((guards_of f).at i []).owed)) (stands.value g e (later_keeps keeps l));
}
