-- Literals of a lesson that are kept, and that may be left out.
use Rattle.std.proofs.Common.{◌≡◌, ◌⊎◌, inl, inr, Bool, ℕ, ◌+◌, ◌<◌, ◌≤◌, ◌++◌, List, [], ◌∷◌, length, get_or, take, sym, subst, Option}
use Rattle.std.specs.Prelude.{Contains}
use Rattle.std.proofs.lemmas.List.{take_more, take_all}
use Rattle.std.proofs.lemmas.List.Elements.{Contains-push_cases, Contains-push, Contains-append_left, Contains-append_right, Contains-get_or}
use Rattle.sk_clause.specs.declared.lit.Lit.{Lit}
use Rattle.sk_clause.proofs.MeaningLemmas.{Contains-none}
use Rattle.sk_sat.specs.Trail.{IsTrailOf}
use Rattle.sk_sat.specs.Analysis.{IsOnly, IsKept, IsImplied, IsTurn}
use Rattle.sk_sat.specs.Marks.{MarksMore}
use Rattle.sk_sat.proofs.MarkLemmas.{implied_grows, marks_same, marks_then}
use Rattle.sk_sat.proofs.TrimLemmas.{turn_trimmed}

-- the first literals were kept, or may be left out
pub record Trims (known : List (List Lit)) (vs : List (Option Bool)) (rs lv : List ℕ) (ls : List Lit) (begun : List Bool) (out : List Lit) (i : ℕ) (kept : List Bool) (extra slim : List Lit) : Type 0 where
  pub marks : MarksMore known vs rs lv ls begun [] kept extra
  pub each : (m : Lit) → Contains (take i out) m → Contains slim m ⊎ IsImplied known rs lv ls kept m
  pub part : (m : Lit) → Contains slim m → Contains out m

module _ (known : List (List Lit)) (vs : List (Option Bool)) (rs lv : List ℕ) (ls : List Lit) (begun : List Bool) (out : List Lit) where
  pub trims_begin : (extra slim : List Lit) → extra ≡ [] → slim ≡ [] → Trims known vs rs lv ls begun out 0 begun extra slim
  trims_begin extra slim x e = record {
    marks = subst (λ y. MarksMore known vs rs lv ls begun [] begun y) (sym x) (marks_same known vs rs lv ls begun []);
    each = λ m h. absurd (Contains-none m h);
    part = λ m h. absurd (Contains-none m (subst (λ x. Contains x m) e h));
  }

  module _ (i : ℕ) (d : Lit) (kept kept' : List Bool) (extra extra' slim : List Lit) (less : i < length out) (h : Trims known vs rs lv ls begun out i kept extra slim)
      (up : MarksMore known vs rs lv ls kept extra kept' extra') where
    later : (m : Lit) → Contains (take i out) m → Contains slim m ⊎ IsImplied known rs lv ls kept' m
    later m w = elim (h.each m w) [ inl there ↦ inl there | inr imp ↦ inr (implied_grows known vs rs lv ls kept kept' m up.more imp) ]

    pub trims_drop : IsImplied known rs lv ls kept' (get_or out i d) → Trims known vs rs lv ls begun out (i + 1) kept' extra' slim
    trims_drop imp = record {
      marks = marks_then known vs rs lv ls begun kept kept' [] extra extra' h.marks up;
      each = λ m w. elim (Contains-push_cases (take i out) (get_or out i d) m (subst (λ x. Contains x m) (take_more out i d less) w)) [
        | inl before ↦ later m before
        | inr same ↦ inr (subst (IsImplied known rs lv ls kept') same imp)
      ];
      part = h.part;
    }

    pub trims_keep : Trims known vs rs lv ls begun out (i + 1) kept' extra' (slim ++ get_or out i d ∷ [])
    trims_keep = record {
      marks = marks_then known vs rs lv ls begun kept kept' [] extra extra' h.marks up;
      each = λ m w. elim (Contains-push_cases (take i out) (get_or out i d) m (subst (λ x. Contains x m) (take_more out i d less) w)) [
        | inl before ↦ elim (later m before) [ inl there ↦ inl (Contains-append_left slim (get_or out i d ∷ []) m there) | inr imp ↦ inr imp ]
        | inr same ↦ inl (subst (Contains (slim ++ get_or out i d ∷ [])) same (Contains-push slim (get_or out i d)))
      ];
      part = λ m w. elim (Contains-push_cases slim (get_or out i d) m w) [
        | inl before ↦ h.part m before
        | inr same ↦ subst (Contains out) same (Contains-get_or out i d less)
      ];
    }

  pub trims_end : (lims : List ℕ) (i : ℕ) (kept : List Bool) (extra slim : List Lit) (u : Lit)
      → IsTrailOf known vs lv rs ls lims → IsTurn known vs lv (length lims) out u → IsKept vs begun out → length out ≤ i → Trims known vs rs lv ls begun out i kept extra slim → IsTurn known vs lv (length lims) slim u
  trims_end lims i kept extra slim u t turn k l h =
      turn_trimmed known vs lv rs ls lims t kept out slim u turn
      (λ m f w. elim (h.marks.forced m f w) [ inl old ↦ inl (k.there m f old) | inr imp ↦ inr imp ])
      (λ m w. h.each m (subst (λ x. Contains x m) (sym (take_all i out l)) w)) h.part

  pub trims_only : (i : ℕ) (kept : List Bool) (extra slim : List Lit) → IsKept vs begun out → Trims known vs rs lv ls begun out i kept extra slim → IsOnly kept (out ++ extra)
  trims_only i kept extra slim k h = record {
    each = λ v w. elim (h.marks.only v w) [
      | inl old ↦ (let r = k.only.each v old in (r.0, Contains-append_left out extra r.0 r.1, r.2))
      | inr r ↦ (r.0, Contains-append_right out extra r.0 r.1, r.2)
    ];
  }

pub ruleset trims = (trims_begin, trims_drop, trims_keep, trims_end, trims_only)
