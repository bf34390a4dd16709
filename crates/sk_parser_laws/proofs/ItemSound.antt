-- What the readers of items and of a whole text read is spelt so, stands as it may, and is not too deep.
use Rattle.std.proofs.Common.{◌≡◌, ◌≤◌, true, List, [], ◌∷◌, ◌++◌, map, Some, refl, sym, ap, ◌∙◌, subst, arith, append-nil, append_assoc}
use Rattle.std.specs.List.{list_all}
use Rattle.sk_base.specs.declared.span.Span.{Span}
use Rattle.sk_tree.specs.declared.token.Token.{Token}
use Rattle.sk_tree.specs.declared.token.Kind.{Kind}
use Rattle.sk_tree.specs.declared.token.Kind.TheVariants as kind
use Rattle.sk_tree.specs.declared.token.Mark.TheVariants as mark
use Rattle.sk_tree.specs.declared.token.Key.TheVariants as key
use Rattle.sk_tree.specs.declared.stmt.Stmt.{Stmt}
use Rattle.sk_tree.specs.declared.item.Field.{Field}
use Rattle.sk_tree.specs.declared.item.Param.{Param}
use Rattle.sk_tree.specs.declared.item.Item.{Item}
use Rattle.sk_tree.specs.Phrase.{Phrase, Sign, Keyword, One, ◌▸◌, Each, Between, Perhaps}
use Rattle.sk_tree.specs.Spelt.{SpeltStmt, InBlock, SpeltField, SpeltRef, SpeltParam, SpeltKind, SpeltResult, SpeltItem, are_some}
use Rattle.sk_tree.specs.Depth.{deepest, any_depth, ty_depth, field_depth, param_depth, stmt_depth, item_depth, tree_depth}
use Rattle.sk_tree.specs.Placed.{stand_of, stmt_placed, all_stand, any_ty_placed, param_placed, struct_field_placed, item_placed}
use Rattle.sk_tree.specs.Reads.{Reads}
use Rattle.sk_parser_laws.specs.Readers.{mark_ahead, mark_at, key_ahead, key_at, word_at, text_at, repeated}
use Rattle.sk_parser_laws.specs.ExprReader.{ends_row}
use Rattle.sk_parser_laws.specs.StmtReader.{value_at, ty_at, stmt_at, ends_block}
use Rattle.sk_parser_laws.specs.ItemReader.{pragma_at, next_member, struct_at, const_at, ref_at, param_at, next_param, any_params_at, params_at, kind_kind, kind_at, result_at, implements_at, body_at, named_fun_at, fun_at, gets_ahead, int_item_at, item_kind, item_at, next_item, ends_text, tree_at}
use Rattle.sk_parser_laws.proofs.Loops.{pair, Every, every_none, every_some, every_bind, every_if, every_more, every_repeated}
use Rattle.sk_parser_laws.proofs.Seen.{token, Seen, seen_then, seen_nothing, seen_stands, mark_stands, key_stands, word_stands, text_stands, seen_between_one, seen_between_more, seen_each_push}
use Rattle.sk_parser_laws.proofs.PatternSound.{deepest_push, map_push, some_push}
use Rattle.sk_parser_laws.proofs.ExprSound.{both, both_true, all_push}
use Rattle.sk_parser_laws.proofs.StmtSound.{ty_found, value_found, stmts_found, stmt_sound}

-- a phrase of two, before another
seen_two : (P Q S : Phrase) {ts rest : List Token} → Seen ((P ▸ Q) ▸ S) ts rest → Seen (P ▸ Q ▸ S) ts rest
seen_two P Q S f = record { front = f.front; split = f.split; spelt = two f.spelt }
  where
    two : {ts : List Token} → ((P ▸ Q) ▸ S) ts → (P ▸ Q ▸ S) ts
    two (us, zs, is, (xs, ys, is', p, q), s) = (xs, ys ++ zs, is ∙ ap (λ l. l ++ zs) is' ∙ append_assoc xs ys zs, p, (ys, zs, refl, q, s))

pub record FoundItem (start : List Token) (i : Item) (rest : List Token) : Type 0 where
  pub seen : Seen (SpeltItem i) start rest
  pub depth : item_depth i ≤ 255
  pub placed : item_placed i ≡ true

pragma_found : (s : Span) (ts : List Token) → Every (λ x. FoundItem (token (kind.Key key.Pragma) s ∷ ts) x.0 x.1) (pragma_at ts)
unfolding pragma_at
pragma_found s ts =
    every_bind (word_at ts) _ (word_stands ts)
    (λ word w. every_bind (text_at word.1) _ (text_stands word.1)
    (λ text t. every_bind (mark_at mark.Semicolon text.1) _ (mark_stands mark.Semicolon text.1)
    (λ rest end. every_some (record { seen = seen_then (seen_stands (record { at = s; is = refl })) (seen_then (seen_stands w) (seen_then (seen_stands t) (seen_stands end))); depth = omega arith; placed = refl }))))

-- Structs

record FoundMembers (start : List Token) (fields : List Field) (rest : List Token) : Type 0 where
  seen : Seen (Each SpeltField fields) start rest
  depth : deepest (map field_depth fields) ≤ 254
  placed : list_all struct_field_placed fields ≡ true

next_member_found : (start : List Token) (fields : List Field) (ts : List Token) → FoundMembers start fields ts → Every (λ x. FoundMembers start x.0 x.1) (next_member fields ts)
unfolding next_member
next_member_found start fields ts f =
    every_bind (ty_at 253 ts) _ (ty_found 253 ts)
    (λ ty g. every_bind (word_at ty.1) _ (word_stands ty.1)
    (λ name w. every_bind (mark_at mark.Semicolon name.1) _ (mark_stands mark.Semicolon name.1)
    (λ rest end.
    let field : Field = record { ty = ty.0; name = name.0 } in
    every_some (record {
      seen = seen_each_push SpeltField fields field f.seen (seen_then g.seen (seen_then (seen_stands w) (seen_stands end)));
      depth = omega (arith, f.depth, g.depth, ap deepest (map_push field_depth fields field), deepest_push (map field_depth fields) (field_depth field));
      placed = all_push struct_field_placed fields field f.placed g.placed;
    }))))

struct_found : (s : Span) (ts : List Token) → Every (λ x. FoundItem (token (kind.Key key.Struct) s ∷ ts) x.0 x.1) (struct_at ts)
unfolding struct_at
struct_found s ts =
    every_bind (word_at ts) _ (word_stands ts)
    (λ name w. every_bind (mark_at mark.OpenBrace name.1) _ (mark_stands mark.OpenBrace name.1)
    (λ opening at. every_bind (repeated ends_block next_member [] opening) _
    (every_repeated ends_block next_member (FoundMembers opening) (λ fields rest i _. next_member_found opening fields rest i) [] opening (record { seen = seen_nothing; depth = omega arith; placed = refl }))
    (λ fields f. every_bind (mark_at mark.CloseBrace fields.1) _ (mark_stands mark.CloseBrace fields.1)
    (λ rest end. every_some (record { seen = seen_then (seen_stands (record { at = s; is = refl })) (seen_then (seen_stands w) (seen_then (seen_stands at) (seen_then f.0.seen (seen_stands end)))); depth = omega (arith, f.0.depth); placed = f.0.placed })))))

const_found : (s : Span) (ts : List Token) → Every (λ x. FoundItem (token (kind.Key key.Int) s ∷ ts) x.0 x.1) (const_at ts)
unfolding const_at
const_found s ts =
    every_bind (word_at ts) _ (word_stands ts)
    (λ name w. every_bind (mark_at mark.Assign name.1) _ (mark_stands mark.Assign name.1)
    (λ gets at. every_bind (value_at 254 gets) _ (value_found 254 gets)
    (λ e f. every_bind (mark_at mark.Semicolon e.1) _ (mark_stands mark.Semicolon e.1)
    (λ rest end. every_some (record { seen = seen_then (seen_stands (record { at = s; is = refl })) (seen_then (seen_stands w) (seen_then (seen_stands at) (seen_then f.seen (seen_stands end)))); depth = omega (arith, f.depth); placed = f.placed })))))

-- Functions

ref_found : (ts : List Token) → Every (λ x. Seen (SpeltRef x.0) ts x.1) (ref_at ts)
unfolding ref_at
ref_found ts =
    every_if (key_ahead key.Ref ts) _ _
    (λ _. every_bind (key_at key.Ref ts) _ (key_stands key.Ref ts) (λ rest at. every_some (seen_stands at)))
    (λ _. every_some seen_nothing)

-- one parameter, with what it adds to those before it
param_found : (Q : List Param → List Token → Type 0) (params : List Param) (ts : List Token) → ((p : Param) (rest : List Token) → Seen (SpeltParam p) ts rest → param_depth p ≤ 253 → param_placed p ≡ true → Q (params ++ p ∷ []) rest) → Every (λ x. Q x.0 x.1) (param_at params ts)
unfolding param_at
param_found Q params ts k =
    every_bind (ref_at ts) _ (ref_found ts)
    (λ by_ref r. every_bind (ty_at 252 by_ref.1) _ (ty_found 252 by_ref.1)
    (λ ty f. every_bind (word_at ty.1) _ (word_stands ty.1)
    (λ name w. every_some (k (record { by_ref = by_ref.0; ty = ty.0; name = name.0 }) name.1 (seen_then r (seen_then f.seen (seen_stands w))) (omega (arith, f.depth)) f.placed))))

record FoundParams (start : List Token) (params : List Param) (rest : List Token) : Type 0 where
  seen : Seen (Between (Sign mark.Comma) SpeltParam params) start rest
  some : are_some params ≡ true
  depth : deepest (map param_depth params) ≤ 253
  placed : list_all param_placed params ≡ true

next_param_found : (start : List Token) (params : List Param) (ts : List Token) → FoundParams start params ts → Every (λ x. FoundParams start x.0 x.1) (next_param params ts)
unfolding next_param
next_param_found start params ts f =
    every_bind (mark_at mark.Comma ts) _ (mark_stands mark.Comma ts)
    (λ comma at. param_found (FoundParams start) params comma
    (λ p rest seen depth placed. record {
      seen = seen_between_more (Sign mark.Comma) SpeltParam params p f.some f.seen (seen_then (seen_stands at) seen);
      some = some_push params p;
      depth = omega (arith, f.depth, depth, ap deepest (map_push param_depth params p), deepest_push (map param_depth params) (param_depth p));
      placed = all_push param_placed params p f.placed placed;
    }))

record AnyParams (start : List Token) (params : List Param) (rest : List Token) : Type 0 where
  seen : Seen (Between (Sign mark.Comma) SpeltParam params ▸ Sign mark.CloseParen) start rest
  depth : deepest (map param_depth params) ≤ 253
  placed : list_all param_placed params ≡ true

params_found : (ts : List Token) → Every (λ x. AnyParams ts x.0 x.1) (params_at ts)
unfolding params_at any_params_at
params_found ts =
    every_bind {Q = λ (x : List Param × List Token). Seen (Between (Sign mark.Comma) SpeltParam x.0) ts x.1 × (deepest (map param_depth x.0) ≤ 253) × (list_all param_placed x.0 ≡ true)} (any_params_at ts) _
    (every_if (mark_ahead mark.CloseParen ts) (Some (pair [] ts)) _
    (λ _. every_some (seen_nothing, omega arith, refl))
    (λ _. every_bind {Q = λ (x : List Param × List Token). FoundParams ts x.0 x.1} (param_at [] ts) _
    (param_found (FoundParams ts) [] ts (λ p rest seen depth placed. record { seen = seen_between_one (Sign mark.Comma) SpeltParam p seen; some = refl; depth = omega (arith, depth); placed = both placed refl }))
    (λ first f. every_more (every_repeated ends_row next_param (FoundParams ts) (λ params rest i _. next_param_found ts params rest i) first.0 first.1 f) (λ x p. (p.0.seen, p.0.depth, p.0.placed)))))
    (λ params f. every_bind (mark_at mark.CloseParen params.1) _ (mark_stands mark.CloseParen params.1)
    (λ rest end. every_some (record { seen = seen_then f.0 (seen_stands end); depth = f.1; placed = f.2 })))

kind_kind_found : (k : Kind) (s : Span) (ts : List Token) → Seen (SpeltKind (kind_kind (token k s ∷ ts) k ts).0) (token k s ∷ ts) (kind_kind (token k s ∷ ts) k ts).1
kind_kind_found (kind.Key key.Harness) s ts = seen_stands (record { at = s; is = refl })
kind_kind_found (kind.Key key.Generator) s ts = seen_stands (record { at = s; is = refl })
kind_kind_found _ s ts = seen_nothing

kind_found : (ts : List Token) → Seen (SpeltKind (kind_at ts).0) ts (kind_at ts).1
unfolding kind_at
kind_found [] = seen_nothing
kind_found (t ∷ ts) = kind_kind_found t.kind t.span ts

result_found : (ts : List Token) → Every (λ x. Seen (SpeltResult x.0) ts x.1 × (any_depth ty_depth x.0 ≤ 253) × (any_ty_placed x.0 ≡ true)) (result_at ts)
unfolding result_at
result_found ts =
    every_if (key_ahead key.Void ts) _ _
    (λ _. every_bind (key_at key.Void ts) _ (key_stands key.Void ts) (λ rest at. every_some (seen_stands at, omega arith, refl)))
    (λ _. every_bind (ty_at 253 ts) _ (ty_found 253 ts) (λ ty f. every_some (f.seen, f.depth, f.placed)))

implements_found : (ts : List Token) → Every (λ x. Seen (Perhaps (λ g. Keyword key.Implements ▸ One (kind.Word g)) x.0) ts x.1) (implements_at ts)
unfolding implements_at
implements_found ts =
    every_if (key_ahead key.Implements ts) _ _
    (λ _. every_bind (key_at key.Implements ts) _ (key_stands key.Implements ts)
    (λ after at. every_bind (word_at after) _ (word_stands after) (λ name w. every_some (seen_then (seen_stands at) (seen_stands w)))))
    (λ _. every_some seen_nothing)

stands_placed : (ss : List Stmt) → all_stand (map stand_of ss) ≡ true → list_all stmt_placed ss ≡ true
stands_placed [] h = refl
stands_placed (s ∷ ss) h = let p = both_true (stand_of s).placed (all_stand (map stand_of ss)) h in both p.0 (stands_placed ss p.1)

abbrev Body : List Stmt → Phrase
Body ss = Sign mark.OpenBrace ▸ Each (λ s. SpeltStmt s InBlock) ss ▸ Sign mark.CloseBrace

body_found : (ts : List Token) → Every (λ x. Seen (Body x.0) ts x.1 × (deepest (map stmt_depth x.0) ≤ 253) × (list_all stmt_placed x.0 ≡ true)) (body_at ts)
unfolding body_at
body_found ts =
    every_bind (mark_at mark.OpenBrace ts) _ (mark_stands mark.OpenBrace ts)
    (λ opening at. every_more (stmts_found 253 (stmt_at 253) (stmt_sound 253) opening) (λ ss f. (seen_then (seen_stands at) f.seen, f.depth, stands_placed ss.0 f.placed)))

fun_found : (ts : List Token) → Every (λ x. FoundItem ts x.0 x.1) (fun_at ts)
unfolding fun_at named_fun_at
fun_found ts =
    every_bind (result_at (kind_at ts).1) _ (result_found (kind_at ts).1)
    (λ result r. every_bind (word_at result.1) _ (word_stands result.1)
    (λ name w. every_bind (mark_at mark.OpenParen name.1) _ (mark_stands mark.OpenParen name.1)
    (λ opening at. every_bind (params_at opening) _ (params_found opening)
    (λ params p. every_bind (implements_at params.1) _ (implements_found params.1)
    (λ implements i. every_bind (body_at implements.1) _ (body_found implements.1)
    (λ body b. every_some (record {
      seen = seen_then (kind_found ts) (seen_then r.0 (seen_then (seen_stands w) (seen_then (seen_stands at) (seen_two (Between (Sign mark.Comma) SpeltParam params.0) (Sign mark.CloseParen) (Perhaps (λ g. Keyword key.Implements ▸ One (kind.Word g)) implements.0 ▸ Body body.0) (seen_then p.seen (seen_then i b.0))))));
      depth = omega (arith, r.1, p.depth, b.1);
      placed = both (both r.2 p.placed) b.2;
    })))))))

item_kind_found : (k : Kind) (s : Span) (ts : List Token) → Every (λ x. FoundItem (token k s ∷ ts) x.0 x.1) (item_kind (token k s ∷ ts) k ts)
unfolding int_item_at
item_kind_found (kind.Key key.Pragma) s ts = pragma_found s ts
item_kind_found (kind.Key key.Struct) s ts = struct_found s ts
item_kind_found (kind.Key key.Int) s ts = every_if (gets_ahead ts) (const_at ts) (fun_at (token (kind.Key key.Int) s ∷ ts)) (λ _. const_found s ts) (λ _. fun_found (token (kind.Key key.Int) s ∷ ts))
item_kind_found k s ts = fun_found (token k s ∷ ts)

item_found : (ts : List Token) → Every (λ x. FoundItem ts x.0 x.1) (item_at ts)
unfolding item_at
item_found [] = every_none
item_found (t ∷ ts) = item_kind_found t.kind t.span ts

-- The whole text

record FoundItems (start : List Token) (items : List Item) (rest : List Token) : Type 0 where
  seen : Seen (Each SpeltItem items) start rest
  depth : deepest (map item_depth items) ≤ 255
  placed : list_all item_placed items ≡ true

next_item_found : (start : List Token) (items : List Item) (ts : List Token) → FoundItems start items ts → Every (λ x. FoundItems start x.0 x.1) (next_item items ts)
unfolding next_item
next_item_found start items ts f =
    every_bind (item_at ts) _ (item_found ts)
    (λ i g. every_some (record {
      seen = seen_each_push SpeltItem items i.0 f.seen g.seen;
      depth = omega (arith, f.depth, g.depth, ap deepest (map_push item_depth items i.0), deepest_push (map item_depth items) (item_depth i.0));
      placed = all_push item_placed items i.0 f.placed g.placed;
    }))

ended : (ts : List Token) → ends_text ts ≡ true → ts ≡ []
unfolding ends_text
ended [] h = refl
ended (t ∷ ts) h = cc

-- what is read as a tree reads as it, and is at most 256 deep
pub tree_sound : (ts : List Token) → Every (λ tree. Reads ts tree × (tree_depth tree ≤ 256)) (tree_at ts)
unfolding tree_at
tree_sound ts =
    every_bind (repeated ends_text next_item [] ts) _
    (every_repeated ends_text next_item (FoundItems ts) (λ items rest i _. next_item_found ts items rest i) [] ts (record { seen = seen_nothing; depth = omega arith; placed = refl }))
    (λ items f. every_some (record { spelt = subst (Each SpeltItem items.0) (sym (f.0.seen.split ∙ ap (λ l. f.0.seen.front ++ l) (ended items.1 f.1) ∙ append-nil f.0.seen.front)) f.0.seen.spelt; placed = f.0.placed }, omega (arith, f.0.depth)))
