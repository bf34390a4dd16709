-- The layers of statements as trees: their plain form, whether they hold steps, and where their parts stand.
use Rattle.std.proofs.Common.{◌≡◌, List, [], ◌∷◌, ◌++◌, map, Bool, true, false, ◌&&◌, refl, sym, ap, ◌∙◌}
use Rattle.std.specs.List.{list_all}
use Rattle.sk_base.specs.declared.span.Span.{Span}
use Rattle.sk_tree.specs.declared.stmt.Stmt.{Stmt}
use Rattle.sk_tree.specs.declared.stmt.Form.{Form}
use Rattle.sk_tree.specs.declared.stmt.Form.TheVariants as form
use Rattle.sk_tree.specs.declared.stmt.Form.TheOpen as F
use Rattle.sk_tree.specs.declared.stmt.Form.TheViews.{roll-Form}
use Rattle.sk_tree.specs.declared.stmt.Form.TheFolds.{map-Form, fold-Form, fold-roll-Form, fold-roll-Stmt}
use Rattle.sk_tree.specs.Placed.{Stand, all_stand, form_stand, stand_of}
use Rattle.sk_types_rules.specs.Plain.{Plainly, all_made, form_plain, plainly, form_steps, stmt_steps, is_yes}

abbrev pub TLayer : Type 0
TLayer = F.Form-F Form Stmt

abbrev pub act_plain : Form → Span → Plainly
act_plain = fold-Form (Span → Plainly) Plainly form_plain (λ s. s.form s.span)

abbrev pub plains : TLayer → F.Form-F (Span → Plainly) Plainly
plains l = map-Form Form Stmt (Span → Plainly) Plainly act_plain plainly l

pub plain_at : (s : Span) (f : Form) (l : TLayer) → roll-Form l ≡ f → plainly (record { span = s; form = f }) ≡ form_plain (plains l) s
plain_at s f l is =
    fold-roll-Stmt (Span → Plainly) Plainly form_plain (λ s. s.form s.span) (record { span = s; form = f })
    ∙ ap (λ f. act_plain f s) (sym is)
    ∙ ap (λ (g : Span → Plainly). g s) (fold-roll-Form (Span → Plainly) Plainly form_plain (λ s. s.form s.span) l)

abbrev pub act_steps : Form → Bool
act_steps = fold-Form Bool Bool form_steps (λ s. s.form)

abbrev pub steps_of : TLayer → F.Form-F Bool Bool
steps_of l = map-Form Form Stmt Bool Bool act_steps stmt_steps l

pub steps_at : (s : Span) (f : Form) (l : TLayer) → roll-Form l ≡ f → stmt_steps (record { span = s; form = f }) ≡ form_steps (steps_of l)
steps_at s f l is =
    fold-roll-Stmt Bool Bool form_steps (λ s. s.form) (record { span = s; form = f })
    ∙ ap act_steps (sym is)
    ∙ fold-roll-Form Bool Bool form_steps (λ s. s.form) l

abbrev pub act_stand : Form → Stand
act_stand = fold-Form Stand Stand form_stand (λ s. s.form)

abbrev pub stands_of : TLayer → F.Form-F Stand Stand
stands_of l = map-Form Form Stmt Stand Stand act_stand stand_of l

pub stand_at : (s : Span) (f : Form) (l : TLayer) → roll-Form l ≡ f → stand_of (record { span = s; form = f }) ≡ form_stand (stands_of l)
stand_at s f l is =
    fold-roll-Stmt Stand Stand form_stand (λ s. s.form) (record { span = s; form = f })
    ∙ ap act_stand (sym is)
    ∙ fold-roll-Form Stand Stand form_stand (λ s. s.form) l

-- What a filling is made of: statements that are plain, without steps, and stand where they may.
pub record Fine (e : Stmt) : Type 0 where
  pub made : (plainly e).made ≡ e ∷ []
  pub steps : stmt_steps e ≡ true
  pub placed : (stand_of e).placed ≡ true

abbrev pub AllFine : List Stmt → Type 0
AllFine [] = Unit {0}
AllFine (e ∷ es) = Fine e × AllFine es

pub all_plain : (es : List Stmt) → AllFine es → all_made (map plainly es) ≡ es
all_plain [] h = refl
all_plain (e ∷ es) h = λ i. h.0.made i ++ all_plain es h.1 i

pub all_steps : (es : List Stmt) → AllFine es → list_all is_yes (map stmt_steps es) ≡ true
all_steps [] h = refl
all_steps (e ∷ es) h = λ i. h.0.steps i && all_steps es h.1 i

pub all_placed : (es : List Stmt) → AllFine es → all_stand (map stand_of es) ≡ true
all_placed [] h = refl
all_placed (e ∷ es) h = λ i. h.0.placed i && all_placed es h.1 i

-- A body is a block.
abbrev pub IsBody : Stmt → Type 0
IsBody e = (es : List Stmt) × (e.form ≡ form.Block es)

first_same : (x y : Stmt) → x ∷ [] ≡ y ∷ [] → x ≡ y
first_same x y h = cc

pub body_plain : (e : Stmt) → Fine e → IsBody e → (plainly e).body ≡ e
body_plain e h b =
    let p = plain_at e.span e.form (F.Block b.0) (form.rolls-Block b.0 ∙ sym b.1) in
    let whole = ap (λ (q : Plainly). q.made) (sym p) ∙ h.made in
    ap (λ (q : Plainly). q.body) p ∙ first_same (record { span = e.span; form = form.Block (all_made (map plainly b.0)) }) e whole

pub body_takes : (e : Stmt) → IsBody e → (stand_of e).takes_else ≡ false
body_takes e b = ap (λ (s : Stand). s.takes_else) (stand_at e.span e.form (F.Block b.0) (form.rolls-Block b.0 ∙ sym b.1))
