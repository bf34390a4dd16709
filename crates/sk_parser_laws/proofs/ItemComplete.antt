-- What items and whole texts are spelt by is read as them.
use Rattle.std.proofs.Common.{◌≡◌, ℕ, ◌≤◌, Bool, true, false, ◌&&◌, List, [], ◌∷◌, ◌++◌, map, Option, Some, None, refl, sym, ap, ◌∙◌, subst, arith, append-nil, append_assoc}
use Rattle.std.specs.List.{list_all}
use Rattle.sk_base.specs.declared.span.Span.{Span}
use Rattle.sk_tree.specs.declared.token.Token.{Token}
use Rattle.sk_tree.specs.declared.token.Kind.TheVariants as kind
use Rattle.sk_tree.specs.declared.token.Mark.{Mark}
use Rattle.sk_tree.specs.declared.token.Mark.TheVariants as mark
use Rattle.sk_tree.specs.declared.token.Key.{Key}
use Rattle.sk_tree.specs.declared.token.Key.TheVariants as key
use Rattle.sk_tree.specs.declared.expr.Expr.{Expr}
use Rattle.sk_tree.specs.declared.stmt.Stmt.{Stmt}
use Rattle.sk_tree.specs.declared.item.Base.{Base}
use Rattle.sk_tree.specs.declared.item.Base.TheVariants as base
use Rattle.sk_tree.specs.declared.item.TyTree.{TyTree}
use Rattle.sk_tree.specs.declared.item.Field.{Field}
use Rattle.sk_tree.specs.declared.item.Param.{Param}
use Rattle.sk_tree.specs.declared.item.FunKind.{FunKind}
use Rattle.sk_tree.specs.declared.item.FunKind.TheVariants as funkind
use Rattle.sk_tree.specs.declared.item.FunItem.{FunItem}
use Rattle.sk_tree.specs.declared.item.Item.{Item}
use Rattle.sk_tree.specs.declared.item.Item.TheVariants as item
use Rattle.sk_tree.specs.declared.item.Tree.{Tree}
use Rattle.sk_tree.specs.Phrase.{Phrase, Sign, Keyword, One, ◌▸◌, Each, Between, Perhaps}
use Rattle.sk_tree.specs.Spelt.{SpeltExpr, SpeltBase, SpeltLength, SpeltTy, SpeltStmt, InBlock, SpeltField, SpeltRef, SpeltParam, SpeltKind, SpeltResult, SpeltFun, SpeltItem}
use Rattle.sk_tree.specs.Depth.{deepest, any_depth, expr_depth, ty_depth, field_depth, param_depth, stmt_depth, fun_depth, item_depth, tree_depth}
use Rattle.sk_tree.specs.Placed.{stand_of, stmt_placed, all_stand, expr_placed, any_ty_placed, param_placed, struct_field_placed, fun_placed, item_placed}
use Rattle.sk_tree.specs.Reads.{Reads}
use Rattle.sk_parser_laws.specs.declared.pieces.Deep.{Deep}
use Rattle.sk_parser_laws.specs.Readers.{◌>>=◌, is_key, mark_ahead, mark_at, key_ahead, key_at, word_at, text_at, repeated}
use Rattle.sk_parser_laws.specs.ExprReader.{ends_row}
use Rattle.sk_parser_laws.specs.StringReader.{offers}
use Rattle.sk_parser_laws.specs.StmtReader.{value_at, ty_at, stmts_at, stmt_at, ends_block}
use Rattle.sk_parser_laws.specs.ItemReader.{pragma_at, next_member, struct_at, const_at, ref_at, param_at, next_param, any_params_at, params_at, kind_at, result_at, implements_at, body_at, named_fun_at, fun_at, gets_ahead, int_item_at, item_at, next_item, ends_text, tree_at}
use Rattle.sk_parser_laws.proofs.Loops.{pair, repeated_ends, repeated_more}
use Rattle.sk_parser_laws.proofs.Seen.{token, ahead_stands}
use Rattle.sk_parser_laws.proofs.ExprSound.{both, both_true}
use Rattle.sk_parser_laws.proofs.Complete.{bind_is, if_yes, if_no, cut, mark_read, mark_seen, key_read, key_seen, word_read, text_read, unmarked, AllAre}
use Rattle.sk_parser_laws.proofs.ExprComplete.{stops_at}
use Rattle.sk_parser_laws.proofs.ItemTakes.{next_member_takes, next_param_takes, next_item_takes}
use Rattle.sk_parser_laws.proofs.Heads.{value_reads, assign_reads_not}
use Rattle.sk_parser_laws.proofs.StmtComplete.{commas_read, all_fit, ty_reads, ty_unmarked, Known, names, stmt_reads, block_reads}

pragma_reads : (word text : List ℕ) (ts rest : List Token) → (Keyword key.Pragma ▸ One (kind.Word word) ▸ One (kind.Text text) ▸ Sign mark.Semicolon) ts → item_at (ts ++ rest) ≡ Some (pair (item.Pragma word text) rest)
unfolding item_at pragma_at
pragma_reads word text ts rest (us, ys, is, (at, isu), (vs, zs, is', (at', isv), (ws, qs, is'', (at'', isw), (end, isq)))) =
    ap (λ l. item_at (l ++ rest)) (is ∙ ap (λ l. l ++ ys) isu)
    ∙ bind_is (word_at (ys ++ rest)) _ (word_read word ys at' zs rest (is' ∙ ap (λ l. l ++ zs) isv))
    (bind_is (text_at (zs ++ rest)) _ (text_read text zs at'' qs rest (is'' ∙ ap (λ l. l ++ qs) isw))
    (bind_is (mark_at mark.Semicolon (qs ++ rest)) _ (mark_read mark.Semicolon qs end [] rest isq) refl))

-- Structs

member_reads : (so_far : List Field) (d : Field) (ts rest : List Token) → SpeltField d ts → struct_field_placed d ≡ true → field_depth d ≤ 254 → next_member so_far (ts ++ rest) ≡ Some (pair (so_far ++ d ∷ []) rest)
unfolding next_member
member_reads so_far d ts rest (us, ys, is, ht, (vs, zs, is', (at, isv), (end, isz))) p n =
    let name : ys ≡ token (kind.Word d.name) at ∷ zs = is' ∙ ap (λ l. l ++ zs) isv in
    bind_is (ty_at 253 (ts ++ rest)) _ (ap (ty_at 253) (cut _ _ is rest) ∙ ty_reads 253 d.ty us (ys ++ rest) ht p (omega arith) (unmarked mark.OpenBracket d.name ys at zs rest name))
    (bind_is (word_at (ys ++ rest)) _ (word_read d.name ys at zs rest name)
    (bind_is (mark_at mark.Semicolon (zs ++ rest)) _ (mark_read mark.Semicolon zs end [] rest isz) refl))

member_goes_on : (d : Field) (ts rest : List Token) → SpeltField d ts → ends_block (ts ++ rest) ≡ false
unfolding ends_block
member_goes_on d ts rest (us, ys, is, ht, q) = ap (mark_ahead mark.CloseBrace) (cut _ _ is rest) ∙ ty_unmarked mark.CloseBrace d.ty us (ys ++ rest) ht

members_read : (ds so_far : List Field) (ts rest : List Token) → Each SpeltField ds ts → list_all struct_field_placed ds ≡ true → deepest (map field_depth ds) ≤ 254 → ends_block rest ≡ true → repeated ends_block next_member so_far (ts ++ rest) ≡ Some (pair (so_far ++ ds) rest)
members_read [] so_far ts rest h p n brace =
    ap (λ l. repeated ends_block next_member so_far (l ++ rest)) h ∙ repeated_ends ends_block next_member so_far rest brace ∙ (λ i. Some (pair (sym (append-nil so_far) i) rest))
members_read (d ∷ ds) so_far ts rest (xs, ys, is, h, more) p n brace =
    let ps = both_true (struct_field_placed d) (list_all struct_field_placed ds) p in
    ap (repeated ends_block next_member so_far) (cut _ _ is rest)
    ∙ repeated_more ends_block next_member next_member_takes so_far (xs ++ (ys ++ rest)) (so_far ++ d ∷ []) (ys ++ rest) (member_goes_on d xs (ys ++ rest) h) (member_reads so_far d xs (ys ++ rest) h ps.0 (omega arith))
    ∙ members_read ds (so_far ++ d ∷ []) ys rest more ps.1 (omega arith) brace
    ∙ (λ i. Some (pair (append_assoc so_far (d ∷ []) ds i) rest))

struct_reads : (x : List ℕ) (ds : List Field) (ts rest : List Token) → (Keyword key.Struct ▸ One (kind.Word x) ▸ Sign mark.OpenBrace ▸ Each SpeltField ds ▸ Sign mark.CloseBrace) ts → list_all struct_field_placed ds ≡ true → deepest (map field_depth ds) ≤ 254 → item_at (ts ++ rest) ≡ Some (pair (item.Struct x ds) rest)
unfolding item_at struct_at ends_block
struct_reads x ds ts rest (us, ys, is, (at, isu), (vs, zs, is', (at', isv), (ws, qs, is'', (at'', isw), (xs, cs, is3, h, (end, isc))))) p n =
    ap (λ l. item_at (l ++ rest)) (is ∙ ap (λ l. l ++ ys) isu)
    ∙ bind_is (word_at (ys ++ rest)) _ (word_read x ys at' zs rest (is' ∙ ap (λ l. l ++ zs) isv))
    (bind_is (mark_at mark.OpenBrace (zs ++ rest)) _ (mark_read mark.OpenBrace zs at'' qs rest (is'' ∙ ap (λ l. l ++ qs) isw))
    (bind_is (repeated ends_block next_member [] (qs ++ rest)) _ (ap (repeated ends_block next_member []) (cut _ _ is3 rest) ∙ members_read ds [] xs (cs ++ rest) h p n (mark_seen mark.CloseBrace cs end [] rest isc))
    (bind_is (mark_at mark.CloseBrace (cs ++ rest)) _ (mark_read mark.CloseBrace cs end [] rest isc) refl)))

const_reads : (x : List ℕ) (e : Expr) (ts rest : List Token) → (Keyword key.Int ▸ One (kind.Word x) ▸ Sign mark.Assign ▸ SpeltExpr e ▸ Sign mark.Semicolon) ts → expr_placed e ≡ true → expr_depth e ≤ 254 → item_at (ts ++ rest) ≡ Some (pair (item.Const x e) rest)
unfolding item_at int_item_at const_at gets_ahead
const_reads x e ts rest (us, ys, is, (at, isu), (vs, zs, is', (at', isv), (ws, qs, is'', (at'', isw), (xs, cs, is3, h, (end, isc))))) p n =
    let name : ys ≡ token (kind.Word x) at' ∷ zs = is' ∙ ap (λ l. l ++ zs) isv in
    let gets : zs ≡ token (kind.Mark mark.Assign) at'' ∷ qs = is'' ∙ ap (λ l. l ++ qs) isw in
    ap (λ l. item_at (l ++ rest)) (is ∙ ap (λ l. l ++ ys) isu)
    ∙ if_yes (gets_ahead (ys ++ rest)) _ _ (ap (λ l. gets_ahead (l ++ rest)) name ∙ mark_seen mark.Assign zs at'' qs rest gets)
    (bind_is (word_at (ys ++ rest)) _ (word_read x ys at' zs rest name)
    (bind_is (mark_at mark.Assign (zs ++ rest)) _ (mark_read mark.Assign zs at'' qs rest gets)
    (bind_is (value_at 254 (qs ++ rest)) _ (ap (value_at 254) (cut _ _ is3 rest) ∙ value_reads 254 e xs (cs ++ rest) h p n (stops_at mark.Semicolon cs end [] rest isc refl))
    (bind_is (mark_at mark.Semicolon (cs ++ rest)) _ (mark_read mark.Semicolon cs end [] rest isc) refl))))

-- Parameters

-- a type begins with none of the other keywords
ty_unkeyed : (k : Key) (ty : TyTree) (ts rest : List Token) → is_key k (kind.Key key.Int) ≡ false → is_key k (kind.Key key.Bit) ≡ false → SpeltTy ty ts → key_ahead k (ts ++ rest) ≡ false
unfolding key_ahead
ty_unkeyed k ty ts rest int bit (few, h) = go ty.base h
  where
    go : (b : Base) → (SpeltBase b ▸ Each SpeltLength ty.lengths) ts → key_ahead k (ts ++ rest) ≡ false
    go base.Int (us, vs, is, (at, isu), each) = ap (λ l. key_ahead k (l ++ rest)) (is ∙ ap (λ l. l ++ vs) isu) ∙ int
    go base.Bit (us, vs, is, (at, isu), each) = ap (λ l. key_ahead k (l ++ rest)) (is ∙ ap (λ l. l ++ vs) isu) ∙ bit
    go (base.Named x) (us, vs, is, (at, isu), each) = ap (λ l. key_ahead k (l ++ rest)) (is ∙ ap (λ l. l ++ vs) isu)

ref_reads : (r : Bool) (us behind : List Token) → SpeltRef r us → key_ahead key.Ref behind ≡ false → ref_at (us ++ behind) ≡ Some (pair r behind)
unfolding ref_at
ref_reads false us behind h none = ap (λ l. ref_at (l ++ behind)) h ∙ if_no (key_ahead key.Ref behind) _ _ none refl
ref_reads true us behind (at, is) none =
    if_yes (key_ahead key.Ref (us ++ behind)) _ _ (key_seen key.Ref us at [] behind is) (bind_is (key_at key.Ref (us ++ behind)) _ (key_read key.Ref us at [] behind is) refl)

ref_unmarked : (m : Mark) (r : Bool) (us behind : List Token) → SpeltRef r us → mark_ahead m behind ≡ false → mark_ahead m (us ++ behind) ≡ false
unfolding mark_ahead
ref_unmarked m false us behind h none = ap (λ l. mark_ahead m (l ++ behind)) h ∙ none
ref_unmarked m true us behind (at, is) none = ap (λ l. mark_ahead m (l ++ behind)) is

FitParam : Param → Type 0
FitParam p = (param_placed p ≡ true) × (param_depth p ≤ 253)

param_reads : (so_far : List Param) (p : Param) (ts rest : List Token) → SpeltParam p ts → param_placed p ≡ true → param_depth p ≤ 253 → param_at so_far (ts ++ rest) ≡ Some (pair (so_far ++ p ∷ []) rest)
unfolding param_at
param_reads so_far p ts rest (us, ys, is, hr, (vs, zs, is', ht, (at, isz))) q n =
    let behind : ys ++ rest ≡ vs ++ (zs ++ rest) = cut _ _ is' rest in
    bind_is (ref_at (ts ++ rest)) _ (ap ref_at (cut _ _ is rest) ∙ ref_reads p.by_ref us (ys ++ rest) hr (ap (key_ahead key.Ref) behind ∙ ty_unkeyed key.Ref p.ty vs (zs ++ rest) refl refl ht))
    (bind_is (ty_at 252 (ys ++ rest)) _ (ap (ty_at 252) behind ∙ ty_reads 252 p.ty vs (zs ++ rest) ht q (omega arith) (unmarked mark.OpenBracket p.name zs at [] rest isz))
    (bind_is (word_at (zs ++ rest)) _ (word_read p.name zs at [] rest isz) refl))

param_unmarked : (m : Mark) (p : Param) (ts rest : List Token) → SpeltParam p ts → mark_ahead m (ts ++ rest) ≡ false
param_unmarked m p ts rest (us, ys, is, hr, (vs, zs, is', ht, q)) =
    ap (mark_ahead m) (cut _ _ is rest) ∙ ref_unmarked m p.by_ref us (ys ++ rest) hr (ap (mark_ahead m) (cut _ _ is' rest) ∙ ty_unmarked m p.ty vs (zs ++ rest) ht)

abbrev Anything : List Token → Type 0
Anything ts = Unit {0}

next_param_reads : (so_far : List Param) (p : Param) (ts rest : List Token) → FitParam p → SpeltParam p ts → Anything rest → (at : Span) → next_param so_far (token (kind.Mark mark.Comma) at ∷ (ts ++ rest)) ≡ Some (pair (so_far ++ p ∷ []) rest)
unfolding next_param FitParam
next_param_reads so_far p ts rest ok h f at =
    bind_is (mark_at mark.Comma (token (kind.Mark mark.Comma) at ∷ (ts ++ rest))) _ (mark_read mark.Comma (token (kind.Mark mark.Comma) at ∷ []) at [] (ts ++ rest) refl)
    (param_reads so_far p ts rest h ok.0 ok.1)

all_params : (ps : List Param) → list_all param_placed ps ≡ true → deepest (map param_depth ps) ≤ 253 → AllAre FitParam ps
unfolding FitParam
all_params ps p n = all_fit param_placed param_depth 253 ps p n

close_ends_row : (ts : List Token) (at : Span) (rest : List Token) → ts ≡ token (kind.Mark mark.CloseParen) at ∷ [] → ends_row (ts ++ rest) ≡ true
unfolding ends_row mark_ahead
close_ends_row ts at rest is = ap (λ l. ends_row (l ++ rest)) is

-- parameters, and the parenthesis behind them
params_read : (ps : List Param) (ts rest : List Token) → (Between (Sign mark.Comma) SpeltParam ps ▸ Sign mark.CloseParen) ts → list_all param_placed ps ≡ true → deepest (map param_depth ps) ≤ 253 → params_at (ts ++ rest) ≡ Some (pair ps rest)
unfolding params_at any_params_at
params_read [] ts rest (xs, ys, is, h, (end, isy)) p n =
    let close : ts ≡ token (kind.Mark mark.CloseParen) end ∷ [] = is ∙ ap (λ l. l ++ ys) h ∙ isy in
    bind_is (any_params_at (ts ++ rest)) _ (if_yes (mark_ahead mark.CloseParen (ts ++ rest)) _ _ (mark_seen mark.CloseParen ts end [] rest close) refl)
    (bind_is (mark_at mark.CloseParen (ts ++ rest)) _ (mark_read mark.CloseParen ts end [] rest close) refl)
params_read (q ∷ ps) ts rest (xs, ys, is, (vs, ws, is', h, more), (end, isy)) p n =
    let all = all_params (q ∷ ps) p n in
    let pq = both_true (param_placed q) (list_all param_placed ps) p in
    let whole : ts ++ rest ≡ vs ++ (ws ++ (ys ++ rest)) = cut _ _ is rest ∙ cut _ _ is' (ys ++ rest) in
    bind_is (any_params_at (ts ++ rest)) _
    (ap any_params_at whole
    ∙ if_no (mark_ahead mark.CloseParen (vs ++ (ws ++ (ys ++ rest)))) _ _ (param_unmarked mark.CloseParen q vs (ws ++ (ys ++ rest)) h)
    (bind_is (param_at [] (vs ++ (ws ++ (ys ++ rest)))) _ (param_reads [] q vs (ws ++ (ys ++ rest)) h pq.0 (omega arith))
    (commas_read next_param next_param_takes SpeltParam FitParam Anything next_param_reads (λ at ts. tt) ps (q ∷ []) ws (ys ++ rest) all.1 more tt (close_ends_row ys end rest isy))))
    (bind_is (mark_at mark.CloseParen (ys ++ rest)) _ (mark_read mark.CloseParen ys end [] rest isy) refl)

-- Functions

-- no result begins with what marks a function
result_unkeyed : (r : Option TyTree) (ts rest : List Token) → SpeltResult r ts → kind_at (ts ++ rest) ≡ pair funkind.Plain (ts ++ rest)
unfolding kind_at
result_unkeyed None ts rest (at, is) = ap (λ l. kind_at (l ++ rest)) is ∙ (λ i. pair funkind.Plain (sym is i ++ rest))
result_unkeyed (Some ty) ts rest (few, h) = go ty.base h
  where
    go : (b : Base) → (SpeltBase b ▸ Each SpeltLength ty.lengths) ts → kind_at (ts ++ rest) ≡ pair funkind.Plain (ts ++ rest)
    go base.Int (us, vs, is, (at, isu), each) = let e : ts ≡ token (kind.Key key.Int) at ∷ vs = is ∙ ap (λ l. l ++ vs) isu in ap (λ l. kind_at (l ++ rest)) e ∙ (λ i. pair funkind.Plain (sym e i ++ rest))
    go base.Bit (us, vs, is, (at, isu), each) = let e : ts ≡ token (kind.Key key.Bit) at ∷ vs = is ∙ ap (λ l. l ++ vs) isu in ap (λ l. kind_at (l ++ rest)) e ∙ (λ i. pair funkind.Plain (sym e i ++ rest))
    go (base.Named x) (us, vs, is, (at, isu), each) = let e : ts ≡ token (kind.Word x) at ∷ vs = is ∙ ap (λ l. l ++ vs) isu in ap (λ l. kind_at (l ++ rest)) e ∙ (λ i. pair funkind.Plain (sym e i ++ rest))

kind_reads : (k : FunKind) (us behind : List Token) → SpeltKind k us → kind_at behind ≡ pair funkind.Plain behind → kind_at (us ++ behind) ≡ pair k behind
unfolding kind_at
kind_reads funkind.Plain us behind h plain = ap (λ l. kind_at (l ++ behind)) h ∙ plain
kind_reads funkind.Harness us behind (at, is) plain = ap (λ l. kind_at (l ++ behind)) is
kind_reads funkind.Generator us behind (at, is) plain = ap (λ l. kind_at (l ++ behind)) is

result_reads : (r : Option TyTree) (ts rest : List Token) → SpeltResult r ts → any_ty_placed r ≡ true → any_depth ty_depth r ≤ 253 → mark_ahead mark.OpenBracket rest ≡ false → result_at (ts ++ rest) ≡ Some (pair r rest)
unfolding result_at
result_reads None ts rest (at, is) p n none =
    if_yes (key_ahead key.Void (ts ++ rest)) _ _ (key_seen key.Void ts at [] rest is) (bind_is (key_at key.Void (ts ++ rest)) _ (key_read key.Void ts at [] rest is) refl)
result_reads (Some ty) ts rest h p n none =
    if_no (key_ahead key.Void (ts ++ rest)) _ _ (ty_unkeyed key.Void ty ts rest refl refl h) (bind_is (ty_at 253 (ts ++ rest)) _ (ty_reads 253 ty ts rest h p n none) refl)

implements_read : (g : Option (List ℕ)) (ts rest : List Token) → Perhaps (λ g. Keyword key.Implements ▸ One (kind.Word g)) g ts → key_ahead key.Implements rest ≡ false → implements_at (ts ++ rest) ≡ Some (pair g rest)
unfolding implements_at
implements_read None ts rest h none = ap (λ l. implements_at (l ++ rest)) h ∙ if_no (key_ahead key.Implements rest) _ _ none refl
implements_read (Some g) ts rest (us, ys, is, (at, isu), (end, isy)) none =
    let front : ts ≡ token (kind.Key key.Implements) at ∷ ys = is ∙ ap (λ l. l ++ ys) isu in
    if_yes (key_ahead key.Implements (ts ++ rest)) _ _ (key_seen key.Implements ts at ys rest front)
    (bind_is (key_at key.Implements (ts ++ rest)) _ (key_read key.Implements ts at ys rest front)
    (bind_is (word_at (ys ++ rest)) _ (word_read g ys end [] rest isy) refl))

-- statements, each with what is known of it
known : List Stmt → List Known
known ss = map (λ s. (s, stmt_reads s)) ss

known_names : (ss : List Stmt) → names (known ss) ≡ ss
unfolding known
known_names [] = refl
known_names (s ∷ ss) = ap (λ l. s ∷ l) (known_names ss)

placed_stands : (ss : List Stmt) → list_all stmt_placed ss ≡ true → all_stand (map stand_of ss) ≡ true
placed_stands [] h = refl
placed_stands (s ∷ ss) h = let p = both_true (stmt_placed s) (list_all stmt_placed ss) h in both p.0 (placed_stands ss p.1)

abbrev Body : List Stmt → Phrase
Body ss = Sign mark.OpenBrace ▸ Each (λ s. SpeltStmt s InBlock) ss ▸ Sign mark.CloseBrace

body_reads : (ss : List Stmt) (ts rest : List Token) → Body ss ts → list_all stmt_placed ss ≡ true → deepest (map stmt_depth ss) ≤ 253 → body_at (ts ++ rest) ≡ Some (pair ss rest)
unfolding body_at
body_reads ss ts rest (us, ys, is, (at, isu), h) p n =
    let e = known_names ss in
    let reads : stmts_at (stmt_at 253) (ys ++ rest) ≡ Some (pair (names (known ss)) rest) =
    block_reads 253 (known ss) ys rest
    (subst (λ l. (Each (λ s. SpeltStmt s InBlock) l ▸ Sign mark.CloseBrace) ys) (sym e) h)
    (ap (λ l. all_stand (map stand_of l)) e ∙ placed_stands ss p)
    (omega (arith, ap (λ l. deepest (map stmt_depth l)) e, n)) in
    bind_is (mark_at mark.OpenBrace (ts ++ rest)) _ (mark_read mark.OpenBrace ts at ys rest (is ∙ ap (λ l. l ++ ys) isu))
    (reads ∙ (λ i. Some (pair (e i) rest)))

body_unkeyed : (k : Key) (ss : List Stmt) (ts rest : List Token) → Body ss ts → key_ahead k (ts ++ rest) ≡ false
unfolding key_ahead
body_unkeyed k ss ts rest (us, ys, is, (at, isu), h) = ap (λ l. key_ahead k (l ++ rest)) (is ∙ ap (λ l. l ++ ys) isu)

-- a function, with its tokens taken apart
record FunParts (f : FunItem) (ts : List Token) : Type 0 where
  marks : List Token
  result : List Token
  name : Span
  open_ : Span
  params : List Token
  implements : List Token
  body : List Token
  is : ts ≡ marks ++ (result ++ (token (kind.Word f.name) name ∷ token (kind.Mark mark.OpenParen) open_ ∷ (params ++ (implements ++ body))))
  marks_are : SpeltKind f.kind marks
  result_is : SpeltResult f.result result
  params_are : (Between (Sign mark.Comma) SpeltParam f.params ▸ Sign mark.CloseParen) params
  implements_are : Perhaps (λ g. Keyword key.Implements ▸ One (kind.Word g)) f.implements implements
  body_is : Body f.body body

fun_parts : (f : FunItem) (ts : List Token) → SpeltFun f ts → FunParts f ts
fun_parts f ts (ms, y1, is1, hm, (rs, y2, is2, hr, (ns, y3, is3, (name, isn), (os, y4, is4, (open_, iso), (ps, y5, is5, hp, (cs, y6, is6, hc, (gs, bs, is7, hg, hb))))))) = record {
  marks = ms;
  result = rs;
  name = name;
  open_ = open_;
  params = ps ++ cs;
  implements = gs;
  body = bs;
  is = is1 ∙ ap (λ l. ms ++ l) (is2 ∙ ap (λ l. rs ++ l) (is3 ∙ ap (λ l. l ++ y3) isn ∙ ap (λ l. token (kind.Word f.name) name ∷ l) (is4 ∙ ap (λ l. l ++ y4) iso ∙ ap (λ l. token (kind.Mark mark.OpenParen) open_ ∷ l) (is5 ∙ ap (λ l. ps ++ l) (is6 ∙ ap (λ l. cs ++ l) is7) ∙ sym (append_assoc ps cs (gs ++ bs))))));
  marks_are = hm;
  result_is = hr;
  params_are = (ps, cs, refl, hp, hc);
  implements_are = hg;
  body_is = hb;
}

named_fun_reads : (f : FunItem) (ts : List Token) (o : FunParts f ts) (rest : List Token) → fun_placed f ≡ true → fun_depth f ≤ 254 → named_fun_at f.kind f.result (token (kind.Word f.name) o.name ∷ token (kind.Mark mark.OpenParen) o.open_ ∷ (o.params ++ (o.implements ++ (o.body ++ rest)))) ≡ Some (pair (item.Fun f) rest)
unfolding named_fun_at
named_fun_reads f ts o rest p n =
    let all = both_true (any_ty_placed f.result && list_all param_placed f.params) (list_all stmt_placed f.body) p in
    let two = both_true (any_ty_placed f.result) (list_all param_placed f.params) all.0 in
    let behind_name = token (kind.Mark mark.OpenParen) o.open_ ∷ (o.params ++ (o.implements ++ (o.body ++ rest))) in
    bind_is (word_at (token (kind.Word f.name) o.name ∷ behind_name)) _ (word_read f.name (token (kind.Word f.name) o.name ∷ []) o.name [] behind_name refl)
    (bind_is (mark_at mark.OpenParen behind_name) _ (mark_read mark.OpenParen (token (kind.Mark mark.OpenParen) o.open_ ∷ []) o.open_ [] (o.params ++ (o.implements ++ (o.body ++ rest))) refl)
    (bind_is (params_at (o.params ++ (o.implements ++ (o.body ++ rest)))) _ (params_read f.params o.params (o.implements ++ (o.body ++ rest)) o.params_are two.1 (omega arith))
    (bind_is (implements_at (o.implements ++ (o.body ++ rest))) _ (implements_read f.implements o.implements (o.body ++ rest) o.implements_are (body_unkeyed key.Implements f.body o.body rest o.body_is))
    (bind_is (body_at (o.body ++ rest)) _ (body_reads f.body o.body rest o.body_is all.1 (omega arith)) refl))))

-- the tokens of a function, and what follows
whole : (f : FunItem) (ts : List Token) (o : FunParts f ts) (rest : List Token) → ts ++ rest ≡ o.marks ++ (o.result ++ (token (kind.Word f.name) o.name ∷ token (kind.Mark mark.OpenParen) o.open_ ∷ (o.params ++ (o.implements ++ (o.body ++ rest)))))
whole f ts o rest =
    let tail = token (kind.Word f.name) o.name ∷ token (kind.Mark mark.OpenParen) o.open_ ∷ (o.params ++ (o.implements ++ o.body)) in
    let tail_is : tail ++ rest ≡ token (kind.Word f.name) o.name ∷ token (kind.Mark mark.OpenParen) o.open_ ∷ (o.params ++ (o.implements ++ (o.body ++ rest))) =
    ap (λ l. token (kind.Word f.name) o.name ∷ token (kind.Mark mark.OpenParen) o.open_ ∷ l) (append_assoc o.params (o.implements ++ o.body) rest ∙ ap (λ l. o.params ++ l) (append_assoc o.implements o.body rest)) in
    cut o.marks (o.result ++ tail) o.is rest ∙ ap (λ l. o.marks ++ l) (append_assoc o.result tail rest ∙ ap (λ l. o.result ++ l) tail_is)

fun_reads : (f : FunItem) (ts : List Token) (o : FunParts f ts) (rest : List Token) → fun_placed f ≡ true → fun_depth f ≤ 254 → fun_at (ts ++ rest) ≡ Some (pair (item.Fun f) rest)
unfolding fun_at mark_ahead
fun_reads f ts o rest p n =
    let tail = token (kind.Word f.name) o.name ∷ token (kind.Mark mark.OpenParen) o.open_ ∷ (o.params ++ (o.implements ++ (o.body ++ rest))) in
    let all = both_true (any_ty_placed f.result && list_all param_placed f.params) (list_all stmt_placed f.body) p in
    let two = both_true (any_ty_placed f.result) (list_all param_placed f.params) all.0 in
    let kind_is : kind_at (ts ++ rest) ≡ pair f.kind (o.result ++ tail) = ap kind_at (whole f ts o rest) ∙ kind_reads f.kind o.marks (o.result ++ tail) o.marks_are (result_unkeyed f.result o.result tail o.result_is) in
    ap (λ (k : FunKind × List Token). result_at k.1 >>= λ result. named_fun_at k.0 result.0 result.1) kind_is
    ∙ bind_is (result_at (o.result ++ tail)) _ (result_reads f.result o.result tail o.result_is two.0 (omega arith) refl)
    (named_fun_reads f ts o rest p n)

-- no value begins with `=`
value_opens : (b : ℕ) (ts : List Token) (e : Expr) (rest : List Token) → value_at b ts ≡ Some (pair e rest) → mark_ahead mark.Assign ts ≡ false
unfolding value_at
value_opens b ts e rest reads = go (mark_ahead mark.Assign ts) refl
  where
    go : (c : Bool) → mark_ahead mark.Assign ts ≡ c → mark_ahead mark.Assign ts ≡ false
    go false h = h
    go true h =
        let at = ahead_stands mark.Assign ts h in
        let none : value_at b ts ≡ None = ap (value_at b) at.1.is ∙ ap (λ (o : Option (Deep × List Token)). o >>= λ x. Some (pair x.0.expr x.1)) (assign_reads_not (offers true) b at.1.at at.0) in
        let bad : None ≡ Some (pair e rest) = sym none ∙ reads in
        absurd (cc)

paren_is_not : (s : Span) (l : List Token) → mark_ahead mark.Assign (token (kind.Mark mark.OpenParen) s ∷ l) ≡ false
unfolding mark_ahead
paren_is_not s l = refl

-- what stands behind the `int` of a function is not a name and `=`
int_goes_on : (ls : List Expr) (x : List ℕ) (name open_ : Span) (vs behind : List Token) → Each SpeltLength ls vs → list_all expr_placed ls ≡ true → gets_ahead (vs ++ (token (kind.Word x) name ∷ token (kind.Mark mark.OpenParen) open_ ∷ behind)) ≡ false
unfolding gets_ahead
int_goes_on [] x name open_ vs behind h p = ap (λ l. gets_ahead (l ++ (token (kind.Word x) name ∷ token (kind.Mark mark.OpenParen) open_ ∷ behind))) h ∙ paren_is_not open_ behind
int_goes_on (a ∷ ls) x name open_ vs behind (xs, ys, is, (us, zs, is', (at, isu), (es, cs, is'', h, (end, isc))), more) p =
    let ps = both_true (expr_placed a) (list_all expr_placed ls) p in
    let tail = token (kind.Word x) name ∷ token (kind.Mark mark.OpenParen) open_ ∷ behind in
    let rest = ys ++ tail in
    let front : vs ++ tail ≡ token (kind.Mark mark.OpenBracket) at ∷ (zs ++ rest) = cut _ _ is tail ∙ cut _ _ is' rest ∙ ap (λ l. l ++ (zs ++ rest)) isu in
    let inner : zs ++ rest ≡ es ++ (cs ++ rest) = cut _ _ is'' rest in
    let reads : value_at (expr_depth a) (es ++ (cs ++ rest)) ≡ Some (pair a (cs ++ rest)) = value_reads (expr_depth a) a es (cs ++ rest) h ps.0 (omega arith) (stops_at mark.CloseBracket cs end [] rest isc refl) in
    ap gets_ahead front ∙ ap (mark_ahead mark.Assign) inner ∙ value_opens (expr_depth a) (es ++ (cs ++ rest)) a (cs ++ rest) reads

-- the name and the parenthesis of a function, and what follows
abbrev Tail : List ℕ → Span → Span → List Token → List Token
Tail x name open_ behind = token (kind.Word x) name ∷ token (kind.Mark mark.OpenParen) open_ ∷ behind

-- a function is read as one, whatever it begins with

by_base : (x : List ℕ) (name open_ : Span) (behind : List Token) (b : Base) (ls : List Expr) (rs : List Token) → (SpeltBase b ▸ Each SpeltLength ls) rs → list_all expr_placed ls ≡ true → item_at (rs ++ Tail x name open_ behind) ≡ fun_at (rs ++ Tail x name open_ behind)
unfolding item_at int_item_at
by_base x name open_ behind base.Int ls rs (us, vs, is, (at, isu), each) placed =
    let tail = Tail x name open_ behind in
    let front : rs ++ tail ≡ token (kind.Key key.Int) at ∷ (vs ++ tail) = cut _ _ is tail ∙ ap (λ l. l ++ (vs ++ tail)) isu in
    ap item_at front ∙ if_no (gets_ahead (vs ++ tail)) _ _ (int_goes_on ls x name open_ vs behind each placed) refl ∙ ap fun_at (sym front)
by_base x name open_ behind base.Bit ls rs (us, vs, is, (at, isu), each) placed =
    let tail = Tail x name open_ behind in
    let front : rs ++ tail ≡ token (kind.Key key.Bit) at ∷ (vs ++ tail) = cut _ _ is tail ∙ ap (λ l. l ++ (vs ++ tail)) isu in
    ap item_at front ∙ ap fun_at (sym front)
by_base x name open_ behind (base.Named y) ls rs (us, vs, is, (at, isu), each) placed =
    let tail = Tail x name open_ behind in
    let front : rs ++ tail ≡ token (kind.Word y) at ∷ (vs ++ tail) = cut _ _ is tail ∙ ap (λ l. l ++ (vs ++ tail)) isu in
    ap item_at front ∙ ap fun_at (sym front)

by_result : (x : List ℕ) (name open_ : Span) (behind : List Token) (r : Option TyTree) (rs : List Token) → SpeltResult r rs → any_ty_placed r ≡ true → item_at (rs ++ Tail x name open_ behind) ≡ fun_at (rs ++ Tail x name open_ behind)
unfolding item_at
by_result x name open_ behind None rs (at, is) placed = ap (λ l. item_at (l ++ Tail x name open_ behind)) is ∙ ap (λ l. fun_at (l ++ Tail x name open_ behind)) (sym is)
by_result x name open_ behind (Some ty) rs (few, h) placed = by_base x name open_ behind ty.base ty.lengths rs h placed

by_kind : (x : List ℕ) (name open_ : Span) (behind : List Token) (k : FunKind) (ms : List Token) → SpeltKind k ms → (r : Option TyTree) (rs : List Token) → SpeltResult r rs → any_ty_placed r ≡ true → item_at (ms ++ (rs ++ Tail x name open_ behind)) ≡ fun_at (ms ++ (rs ++ Tail x name open_ behind))
unfolding item_at
by_kind x name open_ behind funkind.Plain ms h r rs hr placed =
    ap (λ l. item_at (l ++ (rs ++ Tail x name open_ behind))) h ∙ by_result x name open_ behind r rs hr placed ∙ ap (λ l. fun_at (l ++ (rs ++ Tail x name open_ behind))) (sym h)
by_kind x name open_ behind funkind.Harness ms (at, is) r rs hr placed =
    ap (λ l. item_at (l ++ (rs ++ Tail x name open_ behind))) is ∙ ap (λ l. fun_at (l ++ (rs ++ Tail x name open_ behind))) (sym is)
by_kind x name open_ behind funkind.Generator ms (at, is) r rs hr placed =
    ap (λ l. item_at (l ++ (rs ++ Tail x name open_ behind))) is ∙ ap (λ l. fun_at (l ++ (rs ++ Tail x name open_ behind))) (sym is)

fun_item : (f : FunItem) (ts : List Token) (o : FunParts f ts) (rest : List Token) → fun_placed f ≡ true → item_at (ts ++ rest) ≡ fun_at (ts ++ rest)
fun_item f ts o rest p =
    let e = whole f ts o rest in
    let all = both_true (any_ty_placed f.result && list_all param_placed f.params) (list_all stmt_placed f.body) p in
    let two = both_true (any_ty_placed f.result) (list_all param_placed f.params) all.0 in
    ap item_at e ∙ by_kind f.name o.name o.open_ (o.params ++ (o.implements ++ (o.body ++ rest))) f.kind o.marks o.marks_are f.result o.result o.result_is two.0 ∙ ap fun_at (sym e)

item_reads : (i : Item) (ts rest : List Token) → SpeltItem i ts → item_placed i ≡ true → item_depth i ≤ 255 → item_at (ts ++ rest) ≡ Some (pair i rest)
item_reads (item.Pragma word text) ts rest h p n = pragma_reads word text ts rest h
item_reads (item.Struct x ds) ts rest h p n = struct_reads x ds ts rest h p (omega arith)
item_reads (item.Const x e) ts rest h p n = const_reads x e ts rest h p (omega arith)
item_reads (item.Fun f) ts rest h p n = let o = fun_parts f ts h in fun_item f ts o rest p ∙ fun_reads f ts o rest p (omega arith)

-- The whole text

item_goes_on : (ts : List Token) (i : Item) (rest : List Token) → item_at ts ≡ Some (pair i rest) → ends_text ts ≡ false
unfolding item_at ends_text
item_goes_on [] i rest reads = let bad : None ≡ Some (pair i rest) = reads in absurd (cc)
item_goes_on (t ∷ ts) i rest reads = refl

items_read : (is so_far : List Item) (ts : List Token) → Each SpeltItem is ts → list_all item_placed is ≡ true → deepest (map item_depth is) ≤ 255 → repeated ends_text next_item so_far ts ≡ Some (pair (so_far ++ is) [])
unfolding next_item ends_text
items_read [] so_far ts h p n = ap (repeated ends_text next_item so_far) h ∙ repeated_ends ends_text next_item so_far [] refl ∙ (λ i. Some (pair (sym (append-nil so_far) i) []))
items_read (x ∷ xs) so_far ts (us, vs, e, h, more) p n =
    let ps = both_true (item_placed x) (list_all item_placed xs) p in
    let reads : item_at (us ++ vs) ≡ Some (pair x vs) = item_reads x us vs h ps.0 (omega arith) in
    ap (repeated ends_text next_item so_far) e
    ∙ repeated_more ends_text next_item next_item_takes so_far (us ++ vs) (so_far ++ x ∷ []) vs (item_goes_on (us ++ vs) x vs reads) (bind_is (item_at (us ++ vs)) _ reads refl)
    ∙ items_read xs (so_far ++ x ∷ []) vs more ps.1 (omega arith)
    ∙ (λ i. Some (pair (append_assoc so_far (x ∷ []) xs i) []))

-- what reads as a tree of depth at most 256 is read as that tree
pub tree_complete : (ts : List Token) (tree : Tree) → Reads ts tree → tree_depth tree ≤ 256 → tree_at ts ≡ Some tree
unfolding tree_at
tree_complete ts tree r n = bind_is (repeated ends_text next_item [] ts) _ (items_read tree.items [] ts r.spelt r.placed (omega arith)) refl
