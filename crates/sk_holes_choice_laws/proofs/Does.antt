-- What forms do, where their parts do the same.
use Rattle.std.proofs.Common.{◌≡◌, ℕ, Bool, true, false, Option, refl, sym, ap, ◌∙◌}
use Rattle.std.proofs.lemmas.Bool.{false≢true}
use Rattle.std.specs.Prelude.{if◌then◌else◌}
use Rattle.sk_base.specs.declared.span.Span.{Span}
use Rattle.sk_prog.specs.declared.ty.Ty.{Ty}
use Rattle.sk_prog.specs.declared.expr.PExpr.{PExpr}
use Rattle.sk_prog.specs.declared.expr.PField.{PField}
use Rattle.sk_prog.specs.declared.expr.PEForm.TheVariants as eform
use Rattle.sk_prog.specs.declared.expr.PEForm.TheFolds.{fold-roll-PExpr}
use Rattle.sk_prog.specs.declared.prog.Prog.{Prog}
use Rattle.sk_model.specs.Step.{fail}
use Rattle.sk_model.specs.Eval.{Calls, Does, does, does_form}
use Rattle.sk_model.specs.Fill.{tight_form, is_tight, spanned, chosen}
use Rattle.sk_model.proofs.Layers.{layer_number, layer_true, layer_false, layer_null, layer_var, layer_const, layer_hole, layer_pattern, layer_paren, layer_call, layer_new, layer_braces, layer_member, layer_index, layer_slice}
use Rattle.sk_model.proofs.Induction.{ExprCases, expr_ind}
use Rattle.sk_model.proofs.Forms.{does_paren, does_unary, does_binary, does_cond, does_to_int, does_pad}

pub same_does : (d e : Does) → ((span : Span) → d.value span ≡ e.value span) → ((span : Span) → d.target span ≡ e.target span) → d ≡ e
same_does d e v t = λ i. record { value = λ span. v span i; target = λ span. t span i }

module _ (prog : Prog) (width : ℕ) (call : Calls) where
  abbrev done : PExpr → Does
  done = does prog width call

  -- the span of an expression says nothing of what it does
  pub spanned_does : (span : Span) (e : PExpr) → done (spanned span e) ≡ done e
  spanned_does span e =
      fold-roll-PExpr (Option Ty → Does) Does (ℕ × Does) (does_form prog width call) (λ x. x.form x.ty) (λ x. (x.field, x.value)) (record { span = span; ty = e.ty; form = e.form })
      ∙ sym (fold-roll-PExpr (Option Ty → Does) Does (ℕ × Does) (does_form prog width call) (λ x. x.form x.ty) (λ x. (x.field, x.value)) (record { span = e.span; ty = e.ty; form = e.form }))

  -- What is not of the tightest level is no target.
  abbrev NoTarget : PExpr → Type 0
  NoTarget e = is_tight e ≡ false → (span : Span) → (done e).target span ≡ fail span

  abbrev Anything : PField → Type 0
  Anything x = Unit {0}

  tight_is : (e : PExpr) → is_tight e ≡ true → NoTarget e
  tight_is e h k = absurd (false≢true (sym k ∙ h))

  cases : ExprCases NoTarget Anything
  cases = record {
    field = λ k e q. tt;
    number = λ s t n. tight_is (record { span = s; ty = t; form = eform.Number n }) (layer_number Bool Bool (Unit {0}) tight_form (λ e. e.form) (λ x. tt) s t n);
    truth = λ s t. tight_is (record { span = s; ty = t; form = eform.True }) (layer_true Bool Bool (Unit {0}) tight_form (λ e. e.form) (λ x. tt) s t);
    falsity = λ s t. tight_is (record { span = s; ty = t; form = eform.False }) (layer_false Bool Bool (Unit {0}) tight_form (λ e. e.form) (λ x. tt) s t);
    null = λ s t. tight_is (record { span = s; ty = t; form = eform.Null }) (layer_null Bool Bool (Unit {0}) tight_form (λ e. e.form) (λ x. tt) s t);
    var = λ s t slot x. tight_is (record { span = s; ty = t; form = eform.Var slot x }) (layer_var Bool Bool (Unit {0}) tight_form (λ e. e.form) (λ x. tt) s t slot x);
    const = λ s t k. tight_is (record { span = s; ty = t; form = eform.Const k }) (layer_const Bool Bool (Unit {0}) tight_form (λ e. e.form) (λ x. tt) s t k);
    hole = λ s t bits. tight_is (record { span = s; ty = t; form = eform.Hole bits }) (layer_hole Bool Bool (Unit {0}) tight_form (λ e. e.form) (λ x. tt) s t bits);
    pattern = λ s t es q. tight_is (record { span = s; ty = t; form = eform.Pattern es }) (layer_pattern Bool Bool (Unit {0}) tight_form (λ e. e.form) (λ x. tt) s t es);
    paren = λ s t e q. tight_is (record { span = s; ty = t; form = eform.Paren e }) (layer_paren Bool Bool (Unit {0}) tight_form (λ e. e.form) (λ x. tt) s t e);
    call = λ s t f es q. tight_is (record { span = s; ty = t; form = eform.Call f es }) (layer_call Bool Bool (Unit {0}) tight_form (λ e. e.form) (λ x. tt) s t f es);
    new = λ s t d fs q. tight_is (record { span = s; ty = t; form = eform.New d fs }) (layer_new Bool Bool (Unit {0}) tight_form (λ e. e.form) (λ x. tt) s t d fs);
    braces = λ s t es q. tight_is (record { span = s; ty = t; form = eform.Braces es }) (layer_braces Bool Bool (Unit {0}) tight_form (λ e. e.form) (λ x. tt) s t es);
    member = λ s t e d k q. tight_is (record { span = s; ty = t; form = eform.Member e d k }) (layer_member Bool Bool (Unit {0}) tight_form (λ e. e.form) (λ x. tt) s t e d k);
    index = λ s t e i q r. tight_is (record { span = s; ty = t; form = eform.Index e i }) (layer_index Bool Bool (Unit {0}) tight_form (λ e. e.form) (λ x. tt) s t e i);
    slice = λ s t e i n q r. tight_is (record { span = s; ty = t; form = eform.Slice e i n }) (layer_slice Bool Bool (Unit {0}) tight_form (λ e. e.form) (λ x. tt) s t e i n);
    unary = λ s t o e q h span. ap (λ (d : Does). d.target span) (does_unary prog width call s t o e);
    binary = λ s t o a b q r h span. ap (λ (d : Does). d.target span) (does_binary prog width call s t o a b);
    cond = λ s t c a b q r u h span. ap (λ (d : Does). d.target span) (does_cond prog width call s t c a b);
    to_int = λ s t e q h span. ap (λ (d : Does). d.target span) (does_to_int prog width call s t e);
    pad = λ s t e q h span. ap (λ (d : Does). d.target span) (does_pad prog width call s t e);
  }

  loose_targets : (e : PExpr) → NoTarget e
  loose_targets = expr_ind NoTarget Anything cases

  -- a chosen string does what it does by itself, in parentheses or as it is
  pub chosen_does : (t : Option Ty) (span : Span) (e : PExpr) → done (chosen t span e) ≡ done e
  chosen_does t span e = go (is_tight e) refl
    where
      go : (b : Bool) → is_tight e ≡ b → done (if b then spanned span e else record { span = span; ty = t; form = eform.Paren (spanned span e) }) ≡ done e
      go true h = spanned_does span e
      go false h =
          does_paren prog width call span t (spanned span e)
          ∙ same_does _ _ (λ s. ap (λ (d : Does). d.value s) (spanned_does span e)) (λ s. sym (loose_targets e h s))
