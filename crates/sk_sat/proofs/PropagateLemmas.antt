-- What one look at a clause, and several, leave.
use Rattle.std.proofs.Common.{Bool, ℕ, ◌<◌, List, [], length, get_or, refl, sym, ◌∙◌, arith, subst, Option}
use Rattle.std.specs.Prelude.{All}
use Rattle.std.proofs.lemmas.List.Elements.{All-contains}
use Rattle.sk_clause.specs.declared.lit.Lit.{Lit}
use Rattle.sk_clause.specs.Meaning.{negated}
use Rattle.sk_clause.specs.Problem.{AreWithin}
use Rattle.sk_clause.specs.Values.{Fails, LeavesOne}
use Rattle.sk_clause.proofs.ValueLemmas.{negated_holds, LeavesOne_var}
use Rattle.sk_sat.specs.declared.trail.Trail.{Trail}
use Rattle.sk_sat.specs.Trail.{IsReason, IsTrailOf, Extends}
use Rattle.sk_sat.specs.Analysis.{IsFalsified}

pub unit_reason : (known : List (List Lit)) (vs : List (Option Bool)) (lv rs : List ℕ) (ls : List Lit) (lims : List ℕ) (i : ℕ) (l : Lit) → IsTrailOf known vs lv rs ls lims → i < length known → LeavesOne vs (get_or known i []) l → IsReason known i ls l
unit_reason known vs lv rs ls lims i l t h one = record {
  there = h;
  has = one.there;
  others = λ m within other. t.agrees.covers (negated m) (negated_holds vs m (one.others m within other));
}

pub falsified_by : (known : List (List Lit)) (vs : List (Option Bool)) (i : ℕ) → i < length known → All (Fails vs) (get_or known i []) → IsFalsified known vs i
falsified_by known vs i h f = record { there = h; each = λ m within. All-contains (Fails vs) (get_or known i []) m f within }

pub unit_var : (known : List (List Lit)) (n : ℕ) (i : ℕ) (vs : List (Option Bool)) (l : Lit) → AreWithin n known → i < length known → LeavesOne vs (get_or known i []) l → l.var < n
unit_var known n i vs l w h one = LeavesOne_var vs (get_or known i []) l one n (w i [] h)

pub extends_same : (t : Trail) → Extends t t
extends_same t = record { lims = refl; long = refl; lits = omega arith }

pub extends_more : (a b c : Trail) → Extends a b → Extends b c → Extends a c
extends_more a b c x y = record { lims = y.lims ∙ x.lims; long = y.long ∙ x.long; lits = omega (arith, x.lits, y.lits) }

pub within_same : (known : List (List Lit)) (a b : Trail) → Extends a b → AreWithin (length a.values.items) known → AreWithin (length b.values.items) known
within_same known a b x h = subst (λ n. AreWithin n known) (sym x.long) h

pub ruleset looks = (unit_reason, falsified_by, unit_var, extends_same)

pub ruleset passes = (extends_same, extends_more, within_same)
