-- What spelling, depth and places say of an expression that is built of one form.
use Rattle.std.proofs.Common.{◌≡◌, ℕ, suc, ◌<◌, ◌≤◌, Bool, true, List, length, sym, ap, ◌∙◌, subst, arith}
use Rattle.sk_base.specs.declared.span.Span.{Span}
use Rattle.sk_tree.specs.declared.token.Token.{Token}
use Rattle.sk_tree.specs.declared.expr.Expr.{Expr}
use Rattle.sk_tree.specs.declared.expr.EForm.{EForm}
use Rattle.sk_tree.specs.declared.expr.NewField.{NewField}
use Rattle.sk_tree.specs.declared.expr.EForm.TheOpen as E
use Rattle.sk_tree.specs.declared.expr.EForm.TheViews.{roll-EForm}
use Rattle.sk_tree.specs.declared.expr.EForm.TheFolds.{map-EForm, fold-EForm, fold-Expr, fold-NewField, fold-roll-EForm, fold-roll-Expr}
use Rattle.sk_tree.specs.Phrase.{Phrase, span_of}
use Rattle.sk_tree.specs.Spelt.{Spans, Saying}
use Rattle.sk_tree.specs.Depth.{expr_depth, eform_depth}
use Rattle.sk_tree.specs.Placed.{Place, place_of, eform_place, expr_place, field_placed}
use Rattle.sk_tree.proofs.Layers.{ExprBy, LayerBy, form_by, expr_by}
use Rattle.sk_parser_laws.specs.declared.pieces.Deep.{Deep}
use Rattle.sk_parser_laws.specs.Readers.{deeper, span_between}
use Rattle.sk_parser_laws.specs.ExprReader.{made}
use Rattle.sk_parser_laws.proofs.Loops.{Every, every_some, every_bind, every_deeper}
use Rattle.sk_parser_laws.proofs.Seen.{Seen, taken_is}

abbrev pub Layer : Type 0
Layer = E.EForm-F EForm Expr NewField

abbrev pub node : Span → EForm → Expr
node s f = record { span = s; form = f }

module _ (A A' A'' : Type 0) (step : E.EForm-F A A' A'' → A) (step' : E.Expr-F A A' A'' → A') (step'' : E.NewField-F A A' A'' → A'') where
  pub folds : (s : Span) (l : Layer) → fold-Expr A A' A'' step step' step'' (node s (roll-EForm l)) ≡ step' (record { span = s; form = step (map-EForm EForm Expr NewField A A' A'' (fold-EForm A A' A'' step step' step'') (fold-Expr A A' A'' step step' step'') (fold-NewField A A' A'' step step' step'') l) })
  folds s l = fold-roll-Expr A A' A'' step step' step'' (record { span = s; form = roll-EForm l }) ∙ ap (λ a. step' (record { span = s; form = a })) (fold-roll-EForm A A' A'' step step' step'' l)

abbrev pub depth_layer : Layer → E.EForm-F ℕ ℕ ℕ
depth_layer l = map-EForm EForm Expr NewField ℕ ℕ ℕ (fold-EForm ℕ ℕ ℕ eform_depth (λ x. suc x.form) (λ x. suc x.value)) expr_depth (fold-NewField ℕ ℕ ℕ eform_depth (λ x. suc x.form) (λ x. suc x.value)) l

pub depth_is : (s : Span) (l : Layer) (f : EForm) → roll-EForm l ≡ f → expr_depth (node s f) ≡ suc (eform_depth (depth_layer l))
depth_is s l f rolls = ap (λ g. expr_depth (node s g)) (sym rolls) ∙ folds ℕ ℕ ℕ eform_depth (λ x. suc x.form) (λ x. suc x.value) s l

abbrev pub place_layer : Layer → E.EForm-F Place Place Bool
place_layer l = map-EForm EForm Expr NewField Place Place Bool (fold-EForm Place Place Bool eform_place expr_place field_placed) place_of (fold-NewField Place Place Bool eform_place expr_place field_placed) l

pub place_is : (s : Span) (l : Layer) (f : EForm) → roll-EForm l ≡ f → place_of (node s f) ≡ eform_place (place_layer l)
place_is s l f rolls = ap (λ g. place_of (node s g)) (sym rolls) ∙ folds Place Place Bool eform_place expr_place field_placed s l

module _ (says : Saying) where
  pub spelt_is : (s : Span) (l : Layer) (f : EForm) → roll-EForm l ≡ f → ExprBy says (node s f) ≡ Spans s (LayerBy says l)
  spelt_is s l f rolls = ap (λ g. ExprBy says (node s g)) (sym rolls) ∙ expr_by says (node s (roll-EForm l)) ∙ ap (Spans s) (form_by says l)

  pub close_spelt : (s : Span) (l : Layer) (f : EForm) (ts : List Token) → roll-EForm l ≡ f → LayerBy says l ts → s ≡ span_of ts → ExprBy says (node s f) ts
  close_spelt s l f ts rolls h is = subst (λ (P : Phrase). P ts) (sym (spelt_is s l f rolls)) (h, is)

  pub open_spelt : (s : Span) (l : Layer) (f : EForm) (ts : List Token) → roll-EForm l ≡ f → ExprBy says (node s f) ts → Spans s (LayerBy says l) ts
  open_spelt s l f ts rolls h = subst (λ (P : Phrase). P ts) (spelt_is s l f rolls) h

  -- What is read from the start up to the rest, in its budget, and where it may stand.
  pub record Made (budget level : ℕ) (start : List Token) (d : Deep) (rest : List Token) : Type 0 where
    pub seen : Seen (ExprBy says d.expr) start rest
    pub less : length rest < length start
    pub depth : d.depth ≡ expr_depth d.expr
    pub within : d.depth ≤ budget
    pub placed : (place_of d.expr).placed ≡ true
    pub level_is : (place_of d.expr).level ≤ level

  pub every_made : (budget level : ℕ) (start : List Token) (l : Layer) (f : EForm) (depth : ℕ) (rest : List Token) → roll-EForm l ≡ f → Seen (LayerBy says l) start rest → length rest < length start → depth ≡ eform_depth (depth_layer l) → (eform_place (place_layer l)).placed ≡ true → (eform_place (place_layer l)).level ≤ level → Every (λ x. Made budget level start x.0 x.1) (made budget start f depth rest)
  unfolding made
  every_made budget level start l f depth rest rolls seen less d p k =
      every_bind (deeper budget depth) _ (every_deeper budget depth)
      (λ n is. every_some (record {
        seen = record { front = seen.front; split = seen.split; spelt = close_spelt (span_between start rest) l f seen.front rolls seen.spelt (taken_is seen) };
        less = less;
        depth = is.0 ∙ ap suc d ∙ sym (depth_is (span_between start rest) l f rolls);
        within = is.1;
        placed = ap (λ (q : Place). q.placed) (place_is (span_between start rest) l f rolls) ∙ p;
        level_is = omega (arith, ap (λ (q : Place). q.level) (place_is (span_between start rest) l f rolls), k);
      }))
