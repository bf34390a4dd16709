-- The reader of items and of a whole text.
use Rattle.std.specs.Prelude.{ℕ, Bool, true, false, List, [], ◌∷◌, ◌++◌, Option, Some, None, if◌then◌else◌}
use Rattle.sk_tree.specs.declared.token.Token.{Token}
use Rattle.sk_tree.specs.declared.token.Kind.{Kind}
use Rattle.sk_tree.specs.declared.token.Kind.TheVariants as kind
use Rattle.sk_tree.specs.declared.token.Mark.TheVariants as mark
use Rattle.sk_tree.specs.declared.token.Key.TheVariants as key
use Rattle.sk_tree.specs.declared.stmt.Stmt.{Stmt}
use Rattle.sk_tree.specs.declared.item.TyTree.{TyTree}
use Rattle.sk_tree.specs.declared.item.Field.{Field}
use Rattle.sk_tree.specs.declared.item.Param.{Param}
use Rattle.sk_tree.specs.declared.item.FunKind.{FunKind}
use Rattle.sk_tree.specs.declared.item.FunKind.TheVariants as funkind
use Rattle.sk_tree.specs.declared.item.Item.{Item}
use Rattle.sk_tree.specs.declared.item.Item.TheVariants as item
use Rattle.sk_tree.specs.declared.item.Tree.{Tree}
use Rattle.sk_parser_laws.specs.Readers.{◌>>=◌, Reader, mark_ahead, mark_at, key_ahead, key_at, word_at, text_at, repeated}
use Rattle.sk_parser_laws.specs.ExprReader.{ends_row}
use Rattle.sk_parser_laws.specs.StmtReader.{value_at, ty_at, stmts_at, stmt_at, ends_block}

-- How deep the parts of a tree may be, where the tree is at most 256 deep: the tree and its items are nodes, and so are
-- fields, and functions inside their items, and parameters inside these.

-- types of fields and of results, and statements of a body
abbrev pub part_levels : ℕ
part_levels = 253

-- types of parameters
abbrev pub param_levels : ℕ
param_levels = 252

-- values of constants
abbrev pub const_levels : ℕ
const_levels = 254

unfoldable pub pragma_at : Reader Item
pragma_at ts = do
  word ← word_at ts
  text ← text_at word.1
  rest ← mark_at mark.Semicolon text.1
  Some (item.Pragma word.0 text.0, rest)

-- Structs

unfoldable pub next_member : List Field → Reader (List Field)
next_member fields ts = do
  ty ← ty_at part_levels ts
  name ← word_at ty.1
  rest ← mark_at mark.Semicolon name.1
  Some (fields ++ record { ty = ty.0; name = name.0 } ∷ [], rest)

unfoldable pub struct_at : Reader Item
struct_at ts = do
  name ← word_at ts
  opening ← mark_at mark.OpenBrace name.1
  fields ← repeated ends_block next_member [] opening
  rest ← mark_at mark.CloseBrace fields.1
  Some (item.Struct name.0 fields.0, rest)

-- behind `int`
unfoldable pub const_at : Reader Item
const_at ts = do
  name ← word_at ts
  gets ← mark_at mark.Assign name.1
  e ← value_at const_levels gets
  rest ← mark_at mark.Semicolon e.1
  Some (item.Const name.0 e.0, rest)

-- Functions

-- `ref`, where it stands
unfoldable pub ref_at : Reader Bool
ref_at ts = if key_ahead key.Ref ts then (key_at key.Ref ts >>= λ rest. Some (true, rest)) else Some (false, ts)

unfoldable pub param_at : List Param → Reader (List Param)
param_at params ts = do
  by_ref ← ref_at ts
  ty ← ty_at param_levels by_ref.1
  name ← word_at ty.1
  Some (params ++ record { by_ref = by_ref.0; ty = ty.0; name = name.0 } ∷ [], name.1)

unfoldable pub next_param : List Param → Reader (List Param)
next_param params ts = mark_at mark.Comma ts >>= λ comma. param_at params comma

-- any number of them, up to a closing parenthesis
unfoldable pub any_params_at : Reader (List Param)
any_params_at ts = if mark_ahead mark.CloseParen ts then Some ([], ts) else (param_at [] ts >>= λ first. repeated ends_row next_param first.0 first.1)

-- parameters up to a closing parenthesis, and that parenthesis
unfoldable pub params_at : Reader (List Param)
params_at ts = do
  params ← any_params_at ts
  rest ← mark_at mark.CloseParen params.1
  Some (params.0, rest)

abbrev pub kind_kind : List Token → Kind → List Token → FunKind × List Token
kind_kind start (kind.Key key.Harness) ts = (funkind.Harness, ts)
kind_kind start (kind.Key key.Generator) ts = (funkind.Generator, ts)
kind_kind start _ ts = (funkind.Plain, start)

-- `harness` or `generator`, where it stands
unfoldable pub kind_at : List Token → FunKind × List Token
kind_at [] = (funkind.Plain, [])
kind_at (t ∷ ts) = kind_kind (t ∷ ts) t.kind ts

-- a type, or `void`
unfoldable pub result_at : Reader (Option TyTree)
result_at ts = if key_ahead key.Void ts then (key_at key.Void ts >>= λ rest. Some (None, rest)) else (ty_at part_levels ts >>= λ ty. Some (Some ty.0, ty.1))

-- `implements` with its name, where it stands
unfoldable pub implements_at : Reader (Option (List ℕ))
implements_at ts =
    if key_ahead key.Implements ts then (key_at key.Implements ts >>= λ after. word_at after >>= λ name. Some (Some name.0, name.1)) else Some (None, ts)

-- a block of statements
unfoldable pub body_at : Reader (List Stmt)
body_at ts = mark_at mark.OpenBrace ts >>= λ opening. stmts_at (stmt_at part_levels) opening

-- behind what marks the function, and its result
unfoldable pub named_fun_at : FunKind → Option TyTree → Reader Item
named_fun_at k result ts = do
  name ← word_at ts
  opening ← mark_at mark.OpenParen name.1
  params ← params_at opening
  implements ← implements_at params.1
  body ← body_at implements.1
  Some (item.Fun (record { kind = k; result = result; name = name.0; params = params.0; implements = implements.0; body = body.0 }), body.1)

unfoldable pub fun_at : Reader Item
fun_at ts = result_at (kind_at ts).1 >>= λ result. named_fun_at (kind_at ts).0 result.0 result.1

-- a name and `=`, as behind the `int` of a constant
unfoldable pub gets_ahead : List Token → Bool
gets_ahead [] = false
gets_ahead (t ∷ ts) = mark_ahead mark.Assign ts

-- what begins with `int`: a constant, or a function
unfoldable pub int_item_at : List Token → Reader Item
int_item_at start ts = if gets_ahead ts then const_at ts else fun_at start

abbrev pub item_kind : List Token → Kind → Reader Item
item_kind start (kind.Key key.Pragma) ts = pragma_at ts
item_kind start (kind.Key key.Struct) ts = struct_at ts
item_kind start (kind.Key key.Int) ts = int_item_at start ts
item_kind start _ ts = fun_at start

unfoldable pub item_at : Reader Item
item_at [] = None
item_at (t ∷ ts) = item_kind (t ∷ ts) t.kind ts

unfoldable pub next_item : List Item → Reader (List Item)
next_item items ts = item_at ts >>= λ i. Some (items ++ i.0 ∷ [], i.1)

-- no token is left
unfoldable pub ends_text : List Token → Bool
ends_text [] = true
ends_text (t ∷ ts) = false

-- the tree of all tokens
unfoldable pub tree_at : List Token → Option Tree
tree_at ts = repeated ends_text next_item [] ts >>= λ items. Some (record { items = items.0 })
