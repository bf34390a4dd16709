-- Targets of two lists that rise, walked together.
use Rattle.std.proofs.Common.{ℕ, ◌+◌, List, [], ◌∷◌, ◌++◌, Option, sym, ap, subst, ◌∙◌, append_assoc, append-nil}
use Rattle.sk_dag.specs.declared.node.BoolId.{BoolId}
use Rattle.sk_dag.specs.Graph.{Graph}
use Rattle.sk_arr.specs.Held.{IsAdded}
use Rattle.sk_arr.specs.Rising.{RiseFrom, IsLeast, AddsRising}

pub rising_done : (low : ℕ) (before : List (ℕ × BoolId)) → AddsRising low before before
rising_done low before = record { more = []; pushed = sym (append-nil before); rises = tt }

module _ {g : Graph} {c : BoolId} {a b before made after more others : List (ℕ × BoolId)} {slot : ℕ} {first second : Option BoolId} where
  pub rising_on : IsLeast a b slot more others → IsAdded g c slot first second before made → ((low : ℕ) → RiseFrom low more → RiseFrom low others → AddsRising low made after) → (low : ℕ) → RiseFrom low a → RiseFrom low b → AddsRising low before after
  rising_on least added rest low p q =
      let r = least.rest low p q in
      let m = rest (slot + 1) r.1.0 r.1.1 in
      record {
        more = (slot, added.guard) ∷ m.more;
        pushed = m.pushed ∙ ap (λ l. l ++ m.more) added.pushed ∙ append_assoc before ((slot, added.guard) ∷ []) m.more;
        rises = (r.0, m.rises);
      }

pub rising_whole : {low : ℕ} {after : List (ℕ × BoolId)} → AddsRising low [] after → RiseFrom low after
rising_whole {low} {after} m = subst (RiseFrom low) (sym m.pushed) m.rises
