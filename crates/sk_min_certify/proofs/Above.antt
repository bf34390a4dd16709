-- Proofs that no input of an obligation speaks against a choice that completes.
use Rattle.std.proofs.Common.{◌≡◌, ℕ, zero, suc, ◌+◌, ◌<◌, ◌++◌, List, [], ◌∷◌, Some, length, slice_get, refl, sym, subst, ◌∙◌, arith}
use Rattle.std.proofs.lemmas.Option.{none-some, same_Some}
use Rattle.std.proofs.lemmas.List.{length_push}
use Rattle.sk_base.specs.declared.bounds.Bounds.{Bounds}
use Rattle.sk_model.specs.declared.expanded.Choice.{Choice}
use Rattle.sk_model.specs.declared.expanded.Expanded.{Expanded}
use Rattle.sk_model.specs.Fill.{InRange}
use Rattle.sk_model.specs.Obligations.{obligations}
use Rattle.sk_oblig_queries.specs.declared.query.Query.{Query}
use Rattle.sk_oblig_queries.specs.declared.query.Query.TheVariants as query
use Rattle.sk_oblig_queries.specs.Queries.{IsBad, input_of_query}
use Rattle.sk_oblig.specs.Formulas.{IsAskable, IsAsked}
use Rattle.sk_loop_laws.specs.Shown.{Completes}
use Rattle.sk_loop_laws.proofs.Completing.{completes_has_none_bad}
use Rattle.sk_cert.specs.declared.certificate.Proof.{Proof}
use Rattle.sk_min_certify.specs.declared.stop.Stop.{Stop}
use Rattle.sk_min_certify.specs.Stops.{IsStop}
use Rattle.sk_min_certify.proofs.Refuting.{stop_wider}
use Rattle.sk_min_certify.specs.Certified.{AreUpper, IsUpperQuery}
use Rattle.sk_min_certify.specs.Proves.{IsVain, Proves}

pub choice_asked : (e : Expanded) (bounds : Bounds) (copy choice : Choice) (value o place : ℕ) → copy ≡ choice → o ≡ place → place < length (obligations e.prog) → Completes e bounds (Some value) choice → IsAsked e (query.BadAt copy o value)
choice_asked e bounds copy choice value o place is at there c =
    (subst (InRange e) (sym is) c.range, subst (λ (n : ℕ). n < length (obligations e.prog)) (sym at) there)

pub choice_vain : (e : Expanded) (bounds : Bounds) (copy choice : Choice) (value o : ℕ) → copy ≡ choice → IsAskable e bounds → Completes e bounds (Some value) choice → IsVain e bounds (query.BadAt copy o value)
choice_vain e bounds copy choice value o is askable c bits bad =
    let input = input_of_query e bounds (query.BadAt copy o value) o bits in
    completes_has_none_bad e bounds (Some value) choice (askable.met choice c.range) c input (subst (λ (a : Choice). IsBad e bounds a (Some value) input) is bad)

pub proves_above : (e : Expanded) (bounds : Bounds) (copy choice : Choice) (value o place : ℕ) (p : Proof) → copy ≡ choice → o ≡ place → Proves e bounds (query.BadAt copy o value) p → Proves e bounds (query.BadAt choice place value) p
proves_above e bounds copy choice value o place p is at h =
    subst (λ (a : Choice). Proves e bounds (query.BadAt a place value) p) is (subst (λ (n : ℕ). Proves e bounds (query.BadAt copy n value) p) at h)

pub is_above : (e : Expanded) (copy choice : Choice) (value o place : ℕ) → copy ≡ choice → o ≡ place → place < length (obligations e.prog) → (q : Query) → q ≡ query.BadAt copy o value → IsUpperQuery e choice value q
is_above e copy choice value o place is at there q same =
    let below : o < length (obligations e.prog) = subst (λ (n : ℕ). n < length (obligations e.prog)) (sym at) there in
    subst (IsUpperQuery e choice value) (sym same) (is, below, refl)

-- so many proofs, of the first obligations
pub record AreFirst (e : Expanded) (bounds : Bounds) (choice : Choice) (value n : ℕ) (upper : List Proof) : Type 0 where
  pub count : length upper ≡ n
  pub each : (o : ℕ) (p : Proof) → slice_get upper o ≡ Some p → Proves e bounds (query.BadAt choice o value) p

pub first_none : (e : Expanded) (bounds : Bounds) (choice : Choice) (value : ℕ) → AreFirst e bounds choice value 0 []
first_none e bounds choice value = record { count = refl; each = λ o p at. absurd (none-some p at) }

push_each : (P : ℕ → Proof → Type 0) (ps : List Proof) (p : Proof) → ((o : ℕ) (x : Proof) → slice_get ps o ≡ Some x → P o x) → P (length ps) p → (o : ℕ) (x : Proof) → slice_get (ps ++ p ∷ []) o ≡ Some x → P o x
push_each P [] p all one zero x at = subst (P 0) (same_Some p x at) one
push_each P [] p all one (suc o) x at = absurd (none-some x at)
push_each P (q ∷ qs) p all one zero x at = all 0 x at
push_each P (q ∷ qs) p all one (suc o) x at = push_each (λ n. P (suc n)) qs p (λ n. all (suc n)) one o x at

pub first_next : (e : Expanded) (bounds : Bounds) (choice : Choice) (value n : ℕ) (upper : List Proof) (p : Proof) → AreFirst e bounds choice value n upper → Proves e bounds (query.BadAt choice n value) p → AreFirst e bounds choice value (n + 1) (upper ++ p ∷ [])
first_next e bounds choice value n upper p first one =
    let P : ℕ → Proof → Type 0 = λ o x. Proves e bounds (query.BadAt choice o value) x in
    record {
      count = let long = length_push upper p in omega (arith, long, first.count);
      each = push_each P upper p first.each (subst (λ (k : ℕ). P k p) (sym first.count) one);
    }

pub first_all : (e : Expanded) (bounds : Bounds) (choice : Choice) (value n : ℕ) (upper : List Proof) → AreFirst e bounds choice value n upper → n ≡ length (obligations e.prog) → AreUpper e bounds choice value upper
first_all e bounds choice value n upper first all = record { count = first.count ∙ all; each = first.each }

pub stop_above : (e : Expanded) (bounds : Bounds) (copy choice : Choice) (value o place count : ℕ) (s : Stop) → copy ≡ choice → o ≡ place → place < length (obligations e.prog) → IsStop e bounds (λ q. q ≡ query.BadAt copy o value) count s → IsStop e bounds (IsUpperQuery e choice value) count s
stop_above e bounds copy choice value o place count s is at there = stop_wider e bounds (λ q. q ≡ query.BadAt copy o value) (IsUpperQuery e choice value) count s (is_above e copy choice value o place is at there)

pub ruleset above = (choice_vain, proves_above, stop_above)

pub ruleset firsts = (first_none, first_next, first_all)
