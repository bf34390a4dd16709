-- How the code sees what a statement becomes.
use Rattle.std.specs.Prelude.{List, [], ◌∷◌, Option, Some, None}
use Rattle.sk_base.specs.declared.span.Span.{Span}
use Rattle.sk_tree.specs.declared.stmt.Stmt.{Stmt}
use Rattle.sk_tree.specs.declared.stmt.Form.{Form}
use Rattle.sk_tree.specs.declared.stmt.Form.TheVariants as form
use Rattle.sk_tree.specs.declared.stmt.Form.TheFolds.{fold-Form}
use Rattle.sk_tree.specs.declared.item.Item.{Item}
use Rattle.sk_types_rules.specs.Plain.{Plainly, stmt_at, form_plain, plainly}
use Rattle.sk_types_plain.specs.declared.single.Rewritten.{Rewritten}
use Rattle.sk_types_plain.specs.declared.single.Rewritten.TheVariants.{Block, Row}

-- a block is the same as a body; other statements are put into one
abbrev pub seen : Rewritten → Plainly
seen (Block s) = record { made = s ∷ []; body = s }
seen (Row s es) = record { made = es; body = stmt_at s (form.Block es) }

-- what a form becomes, where its statement has this span
abbrev pub form_plainly : Form → Span → Plainly
form_plainly = fold-Form (Span → Plainly) Plainly form_plain (λ s. s.form s.span)

-- an item that is there, before these
abbrev pub with_item : Option Item → List Item → List Item
with_item None is = is
with_item (Some x) is = x ∷ is
