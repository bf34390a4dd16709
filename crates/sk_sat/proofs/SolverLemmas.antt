-- What keeps a solver sound.
use Rattle.std.proofs.Common.{◌≡◌, inl, inr, Bool, ℕ, ◌+◌, ◌<◌, ◌≤◌, ◌++◌, List, [], ◌∷◌, length, get_or, take, drop, min, refl, sym, ◌∙◌, ap, arith, subst}
use Rattle.std.specs.Prelude.{All, Contains}
use Rattle.std.proofs.lemmas.List.{append_assoc, append-nil, drop_at, drop_all, take-append-le, take-take, get_or-take, get_or_append_left, get_or-append_right, get_or-append-add, length-append, length-take}
use Rattle.std.proofs.lemmas.List.Elements.{All-nil, All-push, All-append, All-take, Contains-append_left, Contains-append_right, Contains-append_cases}
use Rattle.sk_clause.specs.declared.lit.Lit.{Lit}
use Rattle.sk_clause.specs.Meaning.{valuation, Meets, Falsifies, EachFollows, Refutes, IsConsistent, NoneIncludes}
use Rattle.sk_clause.specs.Problem.{IsWithin, AreWithin}
use Rattle.sk_clause.proofs.MeaningLemmas.{follows_more, falsifies_more}
use Rattle.sk_sat.specs.declared.engine.Engine.{Engine}
use Rattle.sk_sat.specs.Engine.{IsReady, Serves, IsCurrent}
use Rattle.sk_sat.specs.Search.{IsUnspent}
use Rattle.sk_sat.specs.Solver.{State, IsSound, Gains, gained, Grows}
use Rattle.sk_sat.proofs.SearchLemmas.{each_follows_push}
use Rattle.sk_sat.proofs.GatherLemmas.{each_follows_join}
use Rattle.sk_sat.proofs.EngineLemmas.{same_append, within_wider, serves_searched, serve_vars, serve_add}

each_follows_more : (cs ds log : List (List Lit)) → ((d : List Lit) → Contains cs d → Contains ds d) → EachFollows cs log → EachFollows ds log
each_follows_more cs ds log more h i l = follows_more (cs ++ take i log) (ds ++ take i log) (get_or log i [])
    (λ d w. elim (Contains-append_cases cs (take i log) d w) [
      | inl a ↦ Contains-append_left ds (take i log) d (more d a)
      | inr b ↦ Contains-append_right ds (take i log) d b
    ]) (h i l)

pub sound_begins : IsSound 0 [] []
sound_begins = record { within = All-nil (IsWithin 0); learnt_within = All-nil (IsWithin 0); each = λ i l. absurd (omega arith); consistent = All-nil IsConsistent }

pub sound_vars : (n m : ℕ) (added learnt : List (List Lit)) → n ≤ m → IsSound n added learnt → IsSound m added learnt
sound_vars n m added learnt l s = record {
  within = within_wider n m added l s.within;
  learnt_within = within_wider n m learnt l s.learnt_within;
  each = s.each;
  consistent = s.consistent;
}

pub sound_add : (n : ℕ) (added learnt : List (List Lit)) (c : List Lit) → IsWithin n c → IsSound n added learnt → IsSound n (added ++ c ∷ []) learnt
sound_add n added learnt c w s = record {
  within = All-push (IsWithin n) added c s.within w;
  learnt_within = s.learnt_within;
  each = each_follows_more added (added ++ c ∷ []) learnt (λ d h. Contains-append_left added (c ∷ []) d h) s.each;
  consistent = s.consistent;
}

pub join_step : (xs b : List (List Lit)) (k : ℕ) → k < length b → (xs ++ take k b) ++ get_or b k [] ∷ [] ≡ xs ++ take (k + 1) b
join_step xs b k h = append_assoc xs (take k b) (get_or b k [] ∷ []) ∙ ap (λ x. xs ++ x) (sym (Rattle.std.proofs.lemmas.List.take_more b k [] h))

pub ruleset joins = (join_step)

-- what was gained is the new part
pub gained_is : (vars : ℕ) (added learnt fresh all : List (List Lit)) → all ≡ learnt ++ fresh → gained (record { vars = vars; added = added; learnt = learnt }) (record { vars = vars; added = added; learnt = all }) ≡ fresh
gained_is vars added learnt fresh all e = ap (drop (length learnt)) e ∙ drop_at learnt fresh (length learnt) refl

pub gains_by : (vars : ℕ) (added learnt known fresh all : List (List Lit)) → known ≡ added ++ learnt → EachFollows known fresh → all ≡ learnt ++ fresh → Gains (record { vars = vars; added = added; learnt = learnt }) (record { vars = vars; added = added; learnt = all })
gains_by vars added learnt known fresh all e each a =
    let g = gained_is vars added learnt fresh all a in
    record {
      vars = refl;
      added = refl;
      learnt = a ∙ ap (λ x. learnt ++ x) (sym g);
      each = subst (EachFollows (added ++ learnt)) (sym g) (subst (λ x. EachFollows x fresh) e each);
    }

pub gains_nothing : (s : State) → Gains s s
gains_nothing s =
    let g : gained s s ≡ [] = drop_all (length s.learnt) s.learnt (omega arith) in
    record {
      vars = refl;
      added = refl;
      learnt = sym (ap (λ x. s.learnt ++ x) g ∙ append-nil s.learnt);
      each = subst (EachFollows (s.added ++ s.learnt)) (sym g) (λ i l. absurd (omega arith));
    }

-- where the empty clause follows, the whole log refutes
refutes_by : (added learnt fresh all log : List (List Lit)) → all ≡ learnt ++ fresh → EachFollows added all → Falsifies ((added ++ learnt) ++ fresh) [] → log ≡ all ++ [] ∷ [] → Refutes added log
refutes_by added learnt fresh all log a each f l =
    let whole : (added ++ learnt) ++ fresh ≡ added ++ all = append_assoc added learnt fresh ∙ ap (λ x. added ++ x) (sym a) in
    let g : EachFollows added (all ++ [] ∷ []) = each_follows_push added all ((added ++ learnt) ++ fresh) [] whole each f in
    (subst (EachFollows added) (sym l) g, (all, l))

-- the first of the clauses that follow one after another
part_follows : (cs log : List (List Lit)) (k : ℕ) → EachFollows cs log → EachFollows cs (take k log)
part_follows cs log k h i l =
    let m : i < min k (length log) = omega (arith, length-take k log) in
    let below : i < k = omega arith in
    rw (take-take i k log (omega arith), get_or-take k log i [] below) (h i (omega arith))

behind_within : (n : ℕ) (cs ds : List (List Lit)) → AreWithin n (cs ++ ds) → AreWithin n ds
behind_within n cs ds w = λ k d h. rw (sym (get_or-append-add cs ds k d)) (w (length cs + k) d (omega (arith, length-append cs ds)))

grows_by : (vars : ℕ) (added learnt part all : List (List Lit)) → IsSound vars added learnt → EachFollows (added ++ learnt) part → All IsConsistent part → AreWithin vars part → all ≡ learnt ++ part → Grows vars added learnt all
grows_by vars added learnt part all s each cons within a = record {
  sound = record {
    within = s.within;
    learnt_within = subst (AreWithin vars) (sym a) (All-append (IsWithin vars) learnt part s.learnt_within within);
    each = subst (EachFollows added) (sym a) (each_follows_join added learnt part s.each each);
    consistent = subst (All IsConsistent) (sym a) (All-append IsConsistent learnt part s.consistent cons);
  };
  gains = gains_by vars added learnt (added ++ learnt) part all refl each a;
}

pub grows_nothing : (vars : ℕ) (added learnt : List (List Lit)) → IsSound vars added learnt → Grows vars added learnt learnt
grows_nothing vars added learnt s = record { sound = s; gains = gains_nothing (record { vars = vars; added = added; learnt = learnt }) }

-- what a search has learnt
pub record Searched (vars : ℕ) (added learnt : List (List Lit)) (old new : Engine) (fresh : List (List Lit)) : Type 0 where
  pub sound : IsSound vars added learnt
  pub current : IsCurrent vars added learnt old
  pub ready : IsReady new
  pub long : length new.trail.values.items ≡ length old.trail.values.items
  pub taken : new.taken ≡ old.taken
  pub grown : new.known ≡ old.known ++ fresh
  pub each : EachFollows old.known fresh
  pub consistent : All IsConsistent fresh

module _ (vars : ℕ) (added learnt : List (List Lit)) (old new : Engine) (fresh : List (List Lit)) (s : Searched vars added learnt old new fresh) where
  learnt_follows : EachFollows (added ++ learnt) fresh
  learnt_follows = each_follows_more old.known (added ++ learnt) fresh s.current.same.into s.each

  fresh_within : AreWithin vars fresh
  fresh_within = behind_within vars old.known fresh (subst (AreWithin vars) s.grown (subst (λ n. AreWithin n new.known) (s.long ∙ s.current.long) s.ready.within))

  pub grows_part : (all : List (List Lit)) (k : ℕ) → all ≡ learnt ++ take k fresh → Grows vars added learnt all
  grows_part all k a = grows_by vars added learnt (take k fresh) all s.sound (part_follows (added ++ learnt) fresh k learnt_follows) (All-take IsConsistent k fresh s.consistent) (All-take (IsWithin vars) k fresh fresh_within) a

  pub grows_whole : (all : List (List Lit)) → all ≡ learnt ++ fresh → Grows vars added learnt all
  grows_whole all a = grows_by vars added learnt fresh all s.sound learnt_follows s.consistent fresh_within a

  pub serves_after : (all : List (List Lit)) → all ≡ learnt ++ fresh → Serves vars added all new
  serves_after all a = serves_searched vars added learnt fresh all old new s.current s.ready s.long s.taken s.grown a

  pub answer_sat : (all : List (List Lit)) (budget : ℕ) (bits : List Bool) → all ≡ learnt ++ fresh → length bits ≡ length old.trail.values.items → Meets (valuation bits) old.known → IsUnspent budget fresh
      → (length bits ≡ vars) × Meets (valuation bits) added × IsUnspent budget (gained (record { vars = vars; added = added; learnt = learnt }) (record { vars = vars; added = added; learnt = all }))
  answer_sat all budget bits a l m u = (
    l ∙ s.current.long,
    λ c w. m c (s.current.same.back c (Contains-append_left added learnt c w)),
    subst (IsUnspent budget) (sym (gained_is vars added learnt fresh all a)) u,
  )

  pub answer_unsat : (all log : List (List Lit)) → all ≡ learnt ++ fresh → log ≡ all ++ [] ∷ [] → Falsifies (old.known ++ fresh) [] → Refutes added log
  answer_unsat all log a l f =
      refutes_by added learnt fresh all log a (grows_whole all a).sound.each
      (falsifies_more (old.known ++ fresh) ((added ++ learnt) ++ fresh) [] (same_append old.known (added ++ learnt) fresh s.current.same).into f) l

  pub answer_spent : NoneIncludes old.known fresh → NoneIncludes (added ++ learnt) fresh
  answer_spent h = λ i l d w k. h i l d ((same_append old.known (added ++ learnt) (take i fresh) s.current.same).back d w) k

pub learnt_within : (vars : ℕ) (added learnt : List (List Lit)) (i : ℕ) → IsSound vars added learnt → i < length learnt → IsWithin vars (get_or learnt i [])
learnt_within vars added learnt i s l = s.learnt_within i [] l

pub ruleset parts = (grows_nothing)

pub ruleset solvers = (sound_begins, sound_vars, serve_vars, gains_nothing, learnt_within)
