-- Each reader of an item takes a token at least, and so does each turn of its loops.
use Rattle.std.proofs.Common.{◌<◌, ◌≤◌, List, [], ◌∷◌, length, Option, arith}
use Rattle.sk_tree.specs.declared.token.Token.{Token}
use Rattle.sk_tree.specs.declared.token.Kind.{Kind}
use Rattle.sk_tree.specs.declared.token.Kind.TheVariants as kind
use Rattle.sk_tree.specs.declared.token.Mark.TheVariants as mark
use Rattle.sk_tree.specs.declared.token.Key.TheVariants as key
use Rattle.sk_tree.specs.declared.item.TyTree.{TyTree}
use Rattle.sk_tree.specs.declared.item.Field.{Field}
use Rattle.sk_tree.specs.declared.item.Param.{Param}
use Rattle.sk_tree.specs.declared.item.FunKind.{FunKind}
use Rattle.sk_tree.specs.declared.item.Item.{Item}
use Rattle.sk_parser_laws.specs.Readers.{mark_ahead, mark_at, key_ahead, key_at, word_at, text_at, repeated}
use Rattle.sk_parser_laws.specs.ExprReader.{ends_row}
use Rattle.sk_parser_laws.specs.StmtReader.{value_at, ty_at, ends_block}
use Rattle.sk_parser_laws.specs.ItemReader.{pragma_at, next_member, struct_at, const_at, ref_at, param_at, next_param, any_params_at, params_at, kind_kind, kind_at, result_at, implements_at, body_at, named_fun_at, fun_at, gets_ahead, int_item_at, item_kind, item_at, next_item}
use Rattle.sk_parser_laws.proofs.Loops.{pair, Every, every_none, every_some, every_bind, every_if, every_more, every_repeated, Shrinks}
use Rattle.sk_parser_laws.proofs.Seen.{stands_less, mark_stands, key_stands, word_stands, text_stands}
use Rattle.sk_parser_laws.proofs.StmtTakes.{Below, Upto, value_less, ty_less, stmts_less}

pragma_less : (ts : List Token) → Every (Below ts) (pragma_at ts)
unfolding pragma_at
pragma_less ts =
    every_bind (word_at ts) _ (word_stands ts)
    (λ word w. every_bind (text_at word.1) _ (text_stands word.1)
    (λ text t. every_bind (mark_at mark.Semicolon text.1) _ (mark_stands mark.Semicolon text.1)
    (λ rest end. every_some (omega (arith, stands_less w, stands_less t, stands_less end)))))

next_member_less : (fields : List Field) (ts : List Token) → Every (Below ts) (next_member fields ts)
unfolding next_member
next_member_less fields ts =
    every_bind (ty_at 253 ts) _ (ty_less 253 ts)
    (λ ty l. every_bind (word_at ty.1) _ (word_stands ty.1)
    (λ name w. every_bind (mark_at mark.Semicolon name.1) _ (mark_stands mark.Semicolon name.1)
    (λ rest end. every_some (omega (arith, l, stands_less w, stands_less end)))))

pub next_member_takes : Shrinks next_member
next_member_takes = record { takes = λ fields ts r rest e. (next_member_less fields ts).each (pair r rest) e }

struct_less : (ts : List Token) → Every (Below ts) (struct_at ts)
unfolding struct_at
struct_less ts =
    every_bind (word_at ts) _ (word_stands ts)
    (λ name w. every_bind (mark_at mark.OpenBrace name.1) _ (mark_stands mark.OpenBrace name.1)
    (λ opening at. every_bind (repeated ends_block next_member [] opening) _
    (every_repeated ends_block next_member (λ fields rest. length rest ≤ length opening) (λ fields rest i _. every_more (next_member_less fields rest) (λ x l. omega (arith, i, l))) [] opening (omega arith))
    (λ fields p. every_bind (mark_at mark.CloseBrace fields.1) _ (mark_stands mark.CloseBrace fields.1)
    (λ rest end. every_some (omega (arith, stands_less w, stands_less at, p.0, stands_less end))))))

const_less : (ts : List Token) → Every (Below ts) (const_at ts)
unfolding const_at
const_less ts =
    every_bind (word_at ts) _ (word_stands ts)
    (λ name w. every_bind (mark_at mark.Assign name.1) _ (mark_stands mark.Assign name.1)
    (λ gets at. every_bind (value_at 254 gets) _ (value_less 254 gets)
    (λ e l. every_bind (mark_at mark.Semicolon e.1) _ (mark_stands mark.Semicolon e.1)
    (λ rest end. every_some (omega (arith, stands_less w, stands_less at, l, stands_less end))))))

ref_upto : (ts : List Token) → Every (Upto ts) (ref_at ts)
unfolding ref_at
ref_upto ts =
    every_if (key_ahead key.Ref ts) _ _
    (λ _. every_bind (key_at key.Ref ts) _ (key_stands key.Ref ts) (λ rest at. every_some (omega (arith, stands_less at))))
    (λ _. every_some (omega arith))

param_less : (params : List Param) (ts : List Token) → Every (Below ts) (param_at params ts)
unfolding param_at
param_less params ts =
    every_bind (ref_at ts) _ (ref_upto ts)
    (λ by_ref l. every_bind (ty_at 252 by_ref.1) _ (ty_less 252 by_ref.1)
    (λ ty m. every_bind (word_at ty.1) _ (word_stands ty.1) (λ name w. every_some (omega (arith, l, m, stands_less w)))))

next_param_less : (params : List Param) (ts : List Token) → Every (Below ts) (next_param params ts)
unfolding next_param
next_param_less params ts =
    every_bind (mark_at mark.Comma ts) _ (mark_stands mark.Comma ts)
    (λ comma at. every_more (param_less params comma) (λ x l. omega (arith, stands_less at, l)))

pub next_param_takes : Shrinks next_param
next_param_takes = record { takes = λ params ts r rest e. (next_param_less params ts).each (pair r rest) e }

any_params_upto : (ts : List Token) → Every (Upto ts) (any_params_at ts)
unfolding any_params_at
any_params_upto ts =
    every_if (mark_ahead mark.CloseParen ts) _ _
    (λ _. every_some (omega arith))
    (λ _. every_bind (param_at [] ts) _ (param_less [] ts)
    (λ first l. every_more (every_repeated ends_row next_param (λ params rest. length rest ≤ length ts) (λ params rest i _. every_more (next_param_less params rest) (λ x m. omega (arith, i, m))) first.0 first.1 (omega (arith, l))) (λ x p. p.0)))

params_upto : (ts : List Token) → Every (Upto ts) (params_at ts)
unfolding params_at
params_upto ts =
    every_bind (any_params_at ts) _ (any_params_upto ts)
    (λ params l. every_bind (mark_at mark.CloseParen params.1) _ (mark_stands mark.CloseParen params.1) (λ rest end. every_some (omega (arith, l, stands_less end))))

result_upto : (ts : List Token) → Every (Upto ts) (result_at ts)
unfolding result_at
result_upto ts =
    every_if (key_ahead key.Void ts) _ _
    (λ _. every_bind (key_at key.Void ts) _ (key_stands key.Void ts) (λ rest at. every_some (omega (arith, stands_less at))))
    (λ _. every_bind (ty_at 253 ts) _ (ty_less 253 ts) (λ ty l. every_some (omega (arith, l))))

implements_upto : (ts : List Token) → Every (Upto ts) (implements_at ts)
unfolding implements_at
implements_upto ts =
    every_if (key_ahead key.Implements ts) _ _
    (λ _. every_bind (key_at key.Implements ts) _ (key_stands key.Implements ts)
    (λ after at. every_bind (word_at after) _ (word_stands after) (λ name w. every_some (omega (arith, stands_less at, stands_less w)))))
    (λ _. every_some (omega arith))

body_upto : (ts : List Token) → Every (Upto ts) (body_at ts)
unfolding body_at
body_upto ts =
    every_bind (mark_at mark.OpenBrace ts) _ (mark_stands mark.OpenBrace ts)
    (λ opening at. every_more (stmts_less 253 opening) (λ x l. omega (arith, stands_less at, l)))

named_fun_less : (k : FunKind) (result : Option TyTree) (ts : List Token) → Every (Below ts) (named_fun_at k result ts)
unfolding named_fun_at
named_fun_less k result ts =
    every_bind (word_at ts) _ (word_stands ts)
    (λ name w. every_bind (mark_at mark.OpenParen name.1) _ (mark_stands mark.OpenParen name.1)
    (λ opening at. every_bind (params_at opening) _ (params_upto opening)
    (λ params l. every_bind (implements_at params.1) _ (implements_upto params.1)
    (λ implements m. every_bind (body_at implements.1) _ (body_upto implements.1)
    (λ body n. every_some (omega (arith, stands_less w, stands_less at, l, m, n)))))))

kind_kind_upto : (k : Kind) (t : Token) (ts : List Token) → length (kind_kind (t ∷ ts) k ts).1 ≤ length (t ∷ ts)
kind_kind_upto (kind.Key key.Harness) t ts = omega arith
kind_kind_upto (kind.Key key.Generator) t ts = omega arith
kind_kind_upto _ t ts = omega arith

kind_upto : (ts : List Token) → length (kind_at ts).1 ≤ length ts
unfolding kind_at
kind_upto [] = omega arith
kind_upto (t ∷ ts) = kind_kind_upto t.kind t ts

fun_less : (ts : List Token) → Every (Below ts) (fun_at ts)
unfolding fun_at
fun_less ts =
    every_bind (result_at (kind_at ts).1) _ (result_upto (kind_at ts).1)
    (λ result l. every_more (named_fun_less (kind_at ts).0 result.0 result.1) (λ x m. omega (arith, kind_upto ts, l, m)))

item_kind_less : (k : Kind) (t : Token) (ts : List Token) → Every (Below (t ∷ ts)) (item_kind (t ∷ ts) k ts)
unfolding int_item_at
item_kind_less (kind.Key key.Pragma) t ts = every_more (pragma_less ts) (λ x l. omega (arith, l))
item_kind_less (kind.Key key.Struct) t ts = every_more (struct_less ts) (λ x l. omega (arith, l))
item_kind_less (kind.Key key.Int) t ts = every_if (gets_ahead ts) (const_at ts) (fun_at (t ∷ ts)) (λ _. every_more (const_less ts) (λ x l. omega (arith, l))) (λ _. fun_less (t ∷ ts))
item_kind_less _ t ts = fun_less (t ∷ ts)

item_less : (ts : List Token) → Every (Below ts) (item_at ts)
unfolding item_at
item_less [] = every_none
item_less (t ∷ ts) = item_kind_less t.kind t ts

pub next_item_takes : Shrinks next_item
unfolding next_item
next_item_takes = record { takes = λ items ts r rest e. (every_bind {R = λ (x : List Item × List Token). length x.1 < length ts} (item_at ts) _ (item_less ts) (λ i l. every_some l)).each (pair r rest) e }
