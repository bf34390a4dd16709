-- Marks that grow by literals that marked ones force.
use Rattle.std.proofs.Common.{◌≡◌, ◌≢◌, ◌⊎◌, inl, inr, Bool, true, false, ℕ, ◌+◌, ◌<◌, ◌≤◌, ◌++◌, List, [], ◌∷◌, length, get_or, set, take, sym, subst, Option}
use Rattle.std.specs.Prelude.{Contains}
use Rattle.std.proofs.lemmas.List.{take_more, take_all, get_or-set_same}
use Rattle.std.proofs.lemmas.List.Elements.{Contains-push_cases, Contains-push, Contains-append_left}
use Rattle.sk_clause.specs.declared.lit.Lit.{Lit}
use Rattle.sk_clause.proofs.MeaningLemmas.{Contains-none}
use Rattle.sk_clause.specs.Values.{Fails}
use Rattle.sk_clause.proofs.ValueLemmas.{same_var_fails}
use Rattle.sk_sat.specs.Analysis.{level_at, is_open, AreCovered, IsImplied}
use Rattle.sk_sat.specs.Marks.{MarksMore}
use Rattle.sk_sat.proofs.AnalysisLemmas.{set_kept, set_cases}

covered_grows : (lv : List ℕ) (kept kept' : List Bool) (c : List Lit) (l : Lit) → ((v : ℕ) → get_or kept v false ≡ true → get_or kept' v false ≡ true) → AreCovered lv kept c l → AreCovered lv kept' c l
covered_grows lv kept kept' c l up h = record {
  each = λ m w a. elim (h.each m w a) [ inl low ↦ inl low | inr marked ↦ inr (up m.var marked) ];
}

-- the first literals of a clause are covered
pub covers_none : (lv : List ℕ) (kept : List Bool) (c : List Lit) (l : Lit) → AreCovered lv kept (take 0 c) l
covers_none lv kept c l = record { each = λ m h. absurd (Contains-none m h) }

pub covers_all : (lv : List ℕ) (kept : List Bool) (c : List Lit) (l : Lit) (i : ℕ) → length c ≤ i → AreCovered lv kept (take i c) l → AreCovered lv kept c l
covers_all lv kept c l i h w = subst (λ x. AreCovered lv kept x l) (take_all i c h) w

pub open_set : (kept : List Bool) (l : Lit) → l.var < length kept → is_open (set kept l.var true) l ≡ true
open_set kept l within = get_or-set_same kept l.var true false within

module _ (known : List (List Lit)) (vs : List (Option Bool)) (rs lv : List ℕ) (ls : List Lit) where
  pub implied_grows : (kept kept' : List Bool) (l : Lit) → ((v : ℕ) → get_or kept v false ≡ true → get_or kept' v false ≡ true) → IsImplied known rs lv ls kept l → IsImplied known rs lv ls kept' l
  implied_grows kept kept' l up imp = record { why = imp.why; covered = covered_grows lv kept kept' _ l up imp.covered }

  pub marks_same : (kept : List Bool) (extra : List Lit) → MarksMore known vs rs lv ls kept extra kept extra
  marks_same kept extra = record { more = λ v h. h; forced = λ m f h. inl h; only = λ v h. inl h; puts = λ m h. h }

  pub marks_then : (kept kept' kept'' : List Bool) (extra extra' extra'' : List Lit) → MarksMore known vs rs lv ls kept extra kept' extra' → MarksMore known vs rs lv ls kept' extra' kept'' extra'' → MarksMore known vs rs lv ls kept extra kept'' extra''
  marks_then kept kept' kept'' extra extra' extra'' a b = record {
    more = λ v h. b.more v (a.more v h);
    forced = λ m f h. elim (b.forced m f h) [
      | inl old ↦ elim (a.forced m f old) [ inl first ↦ inl first | inr imp ↦ inr (implied_grows kept' kept'' m b.more imp) ]
      | inr imp ↦ inr imp
    ];
    only = λ v h. elim (b.only v h) [
      | inl old ↦ elim (a.only v old) [ inl first ↦ inl first | inr r ↦ inr (r.0, b.puts r.0 r.1, r.2) ]
      | inr r ↦ inr r
    ];
    puts = λ m h. b.puts m (a.puts m h);
  }

  pub marks_one : (kept : List Bool) (extra : List Lit) (l : Lit) → l.var < length kept → Fails vs l → IsImplied known rs lv ls kept l → MarksMore known vs rs lv ls kept extra (set kept l.var true) (extra ++ l ∷ [])
  marks_one kept extra l within f imp = record {
    more = up;
    forced = λ m g h. elim (set_cases kept l.var m.var within h) [
      | inl same ↦ inr (subst (IsImplied known rs lv ls (set kept l.var true)) (same_var_fails vs l m f g same) (implied_grows kept (set kept l.var true) l up imp))
      | inr old ↦ inl old
    ];
    only = λ v h. elim (set_cases kept l.var v within h) [
      | inl same ↦ inr (l, Contains-push extra l, sym same)
      | inr old ↦ inl old
    ];
    puts = λ m h. Contains-append_left extra (l ∷ []) m h;
  }
    where
      up : (v : ℕ) → get_or kept v false ≡ true → get_or (set kept l.var true) v false ≡ true
      up v h = set_kept kept l.var v within h

  pub covers_more : (kept kept' : List Bool) (extra extra' c : List Lit) (l : Lit) (i : ℕ) (d : Lit) → i < length c → AreCovered lv kept (take i c) l → MarksMore known vs rs lv ls kept extra kept' extra'
      → ((get_or c i d).var ≢ l.var → (level_at lv (get_or c i d) ≡ 0) ⊎ (is_open kept' (get_or c i d) ≡ true)) → AreCovered lv kept' (take (i + 1) c) l
  covers_more kept kept' extra extra' c l i d less h up now = record {
    each = λ m w. elim (Contains-push_cases (take i c) (get_or c i d) m (subst (λ x. Contains x m) (take_more c i d less) w)) [
      | inl before ↦ (covered_grows lv kept kept' (take i c) l up.more h).each m before
      | inr same ↦ subst (λ x. x.var ≢ l.var → (level_at lv x ≡ 0) ⊎ (is_open kept' x ≡ true)) same now
    ];
  }

pub ruleset marking = (open_set, marks_same, marks_then, marks_one)

pub ruleset forcing = (marks_same, marks_then, covers_none, covers_more, covers_all)
