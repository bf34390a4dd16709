-- What types, declarations and statements are spelt by is read as them.
use Rattle.std.proofs.Common.{◌≡◌, ℕ, zero, suc, ◌≤◌, Bool, true, false, not, ◌&&◌, List, [], ◌∷◌, ◌++◌, length, map, Option, Some, None, refl, sym, ap, ◌∙◌, subst, arith, append-nil, append_assoc}
use Rattle.std.specs.List.{list_all}
use Rattle.std.proofs.lemmas.Bool.{leb-true}
use Rattle.sk_base.specs.declared.span.Span.{Span}
use Rattle.sk_tree.specs.declared.token.Token.{Token}
use Rattle.sk_tree.specs.declared.token.Kind.{Kind}
use Rattle.sk_tree.specs.declared.token.Kind.TheVariants as kind
use Rattle.sk_tree.specs.declared.token.Mark.{Mark}
use Rattle.sk_tree.specs.declared.token.Mark.TheVariants as mark
use Rattle.sk_tree.specs.declared.token.Key.TheVariants as key
use Rattle.sk_tree.specs.declared.expr.Expr.{Expr}
use Rattle.sk_tree.specs.declared.stmt.Stmt.{Stmt}
use Rattle.sk_tree.specs.declared.stmt.Form.{Form}
use Rattle.sk_tree.specs.declared.stmt.Form.TheVariants as form
use Rattle.sk_tree.specs.declared.stmt.Form.TheOpen as F
use Rattle.sk_tree.specs.declared.stmt.Form.TheViews.{roll-Form}
use Rattle.sk_tree.specs.declared.stmt.Declared.{Declared}
use Rattle.sk_tree.specs.declared.stmt.StepKind.{StepKind}
use Rattle.sk_tree.specs.declared.stmt.StepKind.TheVariants as step
use Rattle.sk_tree.specs.declared.item.Base.{Base}
use Rattle.sk_tree.specs.declared.item.Base.TheVariants as base
use Rattle.sk_tree.specs.declared.item.TyTree.{TyTree}
use Rattle.sk_tree.specs.Phrase.{Phrase, Nothing, Sign, Keyword, ◌▸◌, Each, Behind, Between, Perhaps, span_of}
use Rattle.sk_tree.specs.Spelt.{SpeltExpr, SpeltTarget, SpeltBase, SpeltLength, SpeltTy, SpeltDeclared, SpeltStep, SpeltParens, SpeltStmt, Role, InBlock, AsBody, AsFirst, AsNext, is_whole, may_step, may_declare, is_target, is_call, are_some, Ending}
use Rattle.sk_tree.specs.Depth.{deepest, expr_depth, ty_depth, declared_depth, any_depth, form_depth, stmt_depth}
use Rattle.sk_tree.specs.Placed.{expr_placed, any_placed, ty_placed, declared_placed, Stand, form_stand, stand_of, all_stand}
use Rattle.sk_tree.proofs.Layers.{FormLayer, StmtLayer, stmt_parts, stmt_law}
use Rattle.sk_parser_laws.specs.declared.pieces.Deep.{Deep}
use Rattle.sk_parser_laws.specs.Readers.{◌>>=◌, Reader, mark_ahead, mark_at, key_ahead, key_at, word_at, repeated, inside, span_between}
use Rattle.sk_parser_laws.specs.ExprReader.{ends_row}
use Rattle.sk_parser_laws.specs.StringReader.{offers}
use Rattle.sk_parser_laws.specs.StmtReader.{value_at, base_at, base_type_at, length_at, next_length, lengths_at, ty_at, init_at, declared_at, next_declared, names_at, end_at, only, stmt_of, declare_at, assign_at, turn_at, add_at, call_at, behind_target, simple_at, before_at, or_else, named_at, parens_at, return_value_at, return_at, assert_at, assume_at, minimize_at, next_stmt, ends_block, stmts_at, block_at, reorder_at, behind_if, if_at, while_at, repeat_at, minrepeat_at, between_semicolons, for_body_at, for_at, whole_at, form_at, stmt_at}
use Rattle.sk_parser_laws.proofs.Loops.{pair, Shrinks, repeated_ends, repeated_more}
use Rattle.sk_parser_laws.proofs.Seen.{token, ahead_stands, key_ahead_stands}
use Rattle.sk_parser_laws.proofs.ExprSound.{both, both_true}
use Rattle.sk_parser_laws.proofs.Complete.{bind_is, if_yes, if_no, cut, span_take, first, mark_read, mark_seen, key_read, key_seen, word_read, unworded, AllAre}
use Rattle.sk_parser_laws.proofs.ExprComplete.{Stops, stops_here, stops_at, ends_expr}
use Rattle.sk_parser_laws.proofs.StmtTakes.{next_declared_takes, next_stmt_takes}
use Rattle.sk_parser_laws.proofs.StmtSound.{Layer, stmt, depth_layer, stand_layer, stmt_depth_is, stand_is, spelt_is}
use Rattle.sk_parser_laws.proofs.Heads.{value_reads, stops_less, base_reads, semicolon_reads_not, is_front, is_front_kind, front_of_target, front_of_call, opens, declare_not}

-- Things with commas between them, behind the first

module _ {A : Type 0} (turn : List A → Reader (List A)) (shrinks : Shrinks turn) (P : A → Phrase) (Ok : A → Type 0) (Follow : List Token → Type 0) (one : (s : List A) (a : A) (ts rest : List Token) → Ok a → P a ts → Follow rest → (at : Span) → turn s (token (kind.Mark mark.Comma) at ∷ (ts ++ rest)) ≡ Some (pair (s ++ a ∷ []) rest)) (comma : (at : Span) (ts : List Token) → Follow (token (kind.Mark mark.Comma) at ∷ ts)) where
  pub behind_follow : (later : List A) (ts rest : List Token) → Behind (Sign mark.Comma) P later ts → Follow rest → Follow (ts ++ rest)
  behind_follow [] ts rest h f = subst (λ l. Follow (l ++ rest)) (sym h) f
  behind_follow (a ∷ later) ts rest (us, ys, is, (at, isu), q) f = subst (λ l. Follow (l ++ rest)) (sym (is ∙ ap (λ l. l ++ ys) isu)) (comma at (ys ++ rest))

  pub commas_read : (later : List A) (s : List A) (ts rest : List Token) → AllAre Ok later → Behind (Sign mark.Comma) P later ts → Follow rest → ends_row rest ≡ true → repeated ends_row turn s (ts ++ rest) ≡ Some (pair (s ++ later) rest)
  unfolding ends_row
  commas_read [] s ts rest ok h f e =
      ap (λ l. repeated ends_row turn s (l ++ rest)) h ∙ repeated_ends ends_row turn s rest e ∙ (λ i. Some (pair (sym (append-nil s) i) rest))
  commas_read (a ∷ later) s ts rest ok (us, ys, is, (at, isu), (vs, zs, is', p, more)) f e =
      let front : ts ≡ token (kind.Mark mark.Comma) at ∷ ys = is ∙ ap (λ l. l ++ ys) isu in
      let whole : ts ++ rest ≡ token (kind.Mark mark.Comma) at ∷ (vs ++ (zs ++ rest)) = ap (λ l. l ++ rest) front ∙ ap (λ l. token (kind.Mark mark.Comma) at ∷ l) (cut _ _ is' rest) in
      ap (repeated ends_row turn s) whole
      ∙ repeated_more ends_row turn shrinks s (token (kind.Mark mark.Comma) at ∷ (vs ++ (zs ++ rest))) (s ++ a ∷ []) (zs ++ rest) (ap not (mark_seen mark.Comma (token (kind.Mark mark.Comma) at ∷ []) at [] (vs ++ (zs ++ rest)) refl)) (one s a vs (zs ++ rest) ok.0 p (behind_follow later zs rest more f) at)
      ∙ commas_read later (s ++ a ∷ []) zs rest ok.1 more f e
      ∙ (λ i. Some (pair (append_assoc s (a ∷ []) later i) rest))

-- all of a list are so, where a test and a bound say it
pub all_fit : {A : Type 0} (test : A → Bool) (size : A → ℕ) (b : ℕ) (xs : List A) → list_all test xs ≡ true → deepest (map size xs) ≤ b → AllAre (λ a. (test a ≡ true) × (size a ≤ b)) xs
all_fit test size b [] p d = tt
all_fit test size b (x ∷ xs) p d =
    let ps = both_true (test x) (list_all test xs) p in
    ((ps.0, omega arith), all_fit test size b xs ps.1 (omega arith))

-- Types

base_type_reads : (k : Base) (us rest : List Token) → SpeltBase k us → base_type_at (us ++ rest) ≡ Some (pair k rest)
unfolding base_type_at
base_type_reads base.Int us rest (at, is) = ap (λ l. base_type_at (l ++ rest)) is
base_type_reads base.Bit us rest (at, is) = ap (λ l. base_type_at (l ++ rest)) is
base_type_reads (base.Named x) us rest (at, is) = ap (λ l. base_type_at (l ++ rest)) is

length_reads : (c : ℕ) (before : List Expr) (a : Expr) (ts rest : List Token) → SpeltLength a ts → expr_placed a ≡ true → expr_depth a ≤ c → next_length c before (ts ++ rest) ≡ Some (pair (before ++ a ∷ []) rest)
unfolding next_length length_at
length_reads c before a ts rest (us, ys, is, (at, isu), (vs, ws, is', h, (end, isw))) p d =
    let front : ts ≡ token (kind.Mark mark.OpenBracket) at ∷ ys = is ∙ ap (λ l. l ++ ys) isu in
    if_yes (mark_ahead mark.OpenBracket (ts ++ rest)) _ _ (mark_seen mark.OpenBracket ts at ys rest front)
    (bind_is (mark_at mark.OpenBracket (ts ++ rest)) _ (mark_read mark.OpenBracket ts at ys rest front)
    (bind_is (value_at c (ys ++ rest)) _ (ap (value_at c) (cut _ _ is' rest) ∙ value_reads c a vs (ws ++ rest) h p d (stops_at mark.CloseBracket ws end [] rest isw refl))
    (bind_is (mark_at mark.CloseBracket (ws ++ rest)) _ (mark_read mark.CloseBracket ws end [] rest isw) refl)))

no_length : (c : ℕ) (before : List Expr) (rest : List Token) → mark_ahead mark.OpenBracket rest ≡ false → next_length c before rest ≡ Some (pair before rest)
unfolding next_length
no_length c before rest none = if_no (mark_ahead mark.OpenBracket rest) _ _ none refl

lengths_read : (c : ℕ) (ls : List Expr) (ts rest : List Token) → length ls ≤ 2 → Each SpeltLength ls ts → list_all expr_placed ls ≡ true → deepest (map expr_depth ls) ≤ c → mark_ahead mark.OpenBracket rest ≡ false → lengths_at c (ts ++ rest) ≡ Some (pair ls rest)
unfolding lengths_at
lengths_read c [] ts rest few h p d none =
    ap (λ l. lengths_at c (l ++ rest)) h ∙ bind_is (next_length c [] rest) _ (no_length c [] rest none) (no_length c [] rest none)
lengths_read c (a ∷ []) ts rest few (xs, ys, is, h, nothing) p d none =
    let ps = both_true (expr_placed a) true p in
    ap (lengths_at c) (cut _ _ is rest)
    ∙ bind_is (next_length c [] (xs ++ (ys ++ rest))) _ (length_reads c [] a xs (ys ++ rest) h ps.0 (omega arith))
    (ap (λ l. next_length c (a ∷ []) (l ++ rest)) nothing ∙ no_length c (a ∷ []) rest none)
lengths_read c (a ∷ e ∷ []) ts rest few (xs, ys, is, h, (vs, ws, is', h', nothing)) p d none =
    let ps = both_true (expr_placed a) (expr_placed e && true) p in
    let qs = both_true (expr_placed e) true ps.1 in
    ap (lengths_at c) (cut _ _ is rest)
    ∙ bind_is (next_length c [] (xs ++ (ys ++ rest))) _ (length_reads c [] a xs (ys ++ rest) h ps.0 (omega arith))
    (ap (next_length c (a ∷ [])) (cut _ _ is' rest) ∙ length_reads c (a ∷ []) e vs (ws ++ rest) h' qs.0 (omega arith) ∙ (λ i. Some (pair (a ∷ e ∷ []) (nothing i ++ rest))))
lengths_read c (a ∷ e ∷ f ∷ ls) ts rest few h p d none = absurd (omega arith)

pub ty_reads : (b : ℕ) (ty : TyTree) (ts rest : List Token) → SpeltTy ty ts → ty_placed ty ≡ true → ty_depth ty ≤ b → mark_ahead mark.OpenBracket rest ≡ false → ty_at b (ts ++ rest) ≡ Some (pair ty rest)
unfolding ty_at inside
ty_reads zero ty ts rest h p d none = absurd (omega arith)
ty_reads (suc c) ty ts rest (few, (us, vs, is, hb, each)) p d none =
    bind_is (base_type_at (ts ++ rest)) _ (ap base_type_at (cut _ _ is rest) ∙ base_type_reads ty.base us (vs ++ rest) hb)
    (bind_is (lengths_at c (vs ++ rest)) _ (lengths_read c ty.lengths vs rest (leb-true (length ty.lengths) 2 few) each p (omega arith) none) refl)

-- a type begins with a word or a keyword
pub ty_unmarked : (m : Mark) (ty : TyTree) (ts rest : List Token) → SpeltTy ty ts → mark_ahead m (ts ++ rest) ≡ false
unfolding mark_ahead
ty_unmarked m ty ts rest (few, h) = go ty.base h
  where
    go : (k : Base) → (SpeltBase k ▸ Each SpeltLength ty.lengths) ts → mark_ahead m (ts ++ rest) ≡ false
    go base.Int (us, vs, is, (at, isu), each) = ap (λ l. mark_ahead m (l ++ rest)) (is ∙ ap (λ l. l ++ vs) isu)
    go base.Bit (us, vs, is, (at, isu), each) = ap (λ l. mark_ahead m (l ++ rest)) (is ∙ ap (λ l. l ++ vs) isu)
    go (base.Named x) (us, vs, is, (at, isu), each) = ap (λ l. mark_ahead m (l ++ rest)) (is ∙ ap (λ l. l ++ vs) isu)

-- What stands behind a statement

-- a mark that ends a value in a statement: `;` or `)`
abbrev pub is_closing : Mark → Bool
is_closing mark.Semicolon = true
is_closing mark.CloseParen = true
is_closing _ = false

pub record Closes (ts : List Token) : Type 0 where
  pub what : Mark
  pub at : Span
  pub behind : List Token
  pub is : ts ≡ token (kind.Mark what) at ∷ behind
  pub good : is_closing what ≡ true

closes_by : (P : List Token → Type 0) → ((s : Span) (r : List Token) → P (token (kind.Mark mark.Semicolon) s ∷ r)) → ((s : Span) (r : List Token) → P (token (kind.Mark mark.CloseParen) s ∷ r)) → (ts : List Token) → Closes ts → P ts
closes_by P f g ts c = subst P (sym c.is) (go c.what c.good)
  where
    go : (m : Mark) → is_closing m ≡ true → P (token (kind.Mark m) c.at ∷ c.behind)
    go mark.Semicolon h = f c.at c.behind
    go mark.CloseParen h = g c.at c.behind
    go _ h = cc

pub closes_stops : (ts : List Token) → Closes ts → Stops 13 ts
closes_stops = closes_by (Stops 13) (λ s r. stops_here mark.Semicolon s r refl) (λ s r. stops_here mark.CloseParen s r refl)

closes_row : (ts : List Token) → Closes ts → ends_row ts ≡ true
unfolding ends_row mark_ahead
closes_row = closes_by (λ ts. ends_row ts ≡ true) (λ s r. refl) (λ s r. refl)

closes_unassigned : (ts : List Token) → Closes ts → mark_ahead mark.Assign ts ≡ false
unfolding mark_ahead
closes_unassigned = closes_by (λ ts. mark_ahead mark.Assign ts ≡ false) (λ s r. refl) (λ s r. refl)

-- What may follow a statement in its role: no `else` that it would take, and behind a `for`'s own `;` or `)`.
pub record After (role : Role) (takes : Bool) (rest : List Token) : Type 0 where
  pub no_else : takes ≡ true → key_ahead key.Else rest ≡ false
  pub closed : is_whole role ≡ false → Closes rest

body_after : {role : Role} {takes : Bool} {rest : List Token} → After role takes rest → After AsBody takes rest
body_after a = record { no_else = a.no_else; closed = λ e. absurd (cc) }

ending_closes : (role : Role) {takes : Bool} (ts rest : List Token) → Ending role ts → After role takes rest → Closes (ts ++ rest)
ending_closes InBlock ts rest (at, is) a = record { what = mark.Semicolon; at = at; behind = rest; is = ap (λ l. l ++ rest) is; good = refl }
ending_closes AsBody ts rest (at, is) a = record { what = mark.Semicolon; at = at; behind = rest; is = ap (λ l. l ++ rest) is; good = refl }
ending_closes AsFirst ts rest h a = subst (λ l. Closes (l ++ rest)) (sym h) (a.closed refl)
ending_closes AsNext ts rest h a = subst (λ l. Closes (l ++ rest)) (sym h) (a.closed refl)

end_reads : (role : Role) (ts rest : List Token) → Ending role ts → end_at role (ts ++ rest) ≡ Some rest
unfolding end_at
end_reads InBlock ts rest (at, is) = mark_read mark.Semicolon ts at [] rest is
end_reads AsBody ts rest (at, is) = mark_read mark.Semicolon ts at [] rest is
end_reads AsFirst ts rest h = ap (λ l. Some (l ++ rest)) h
end_reads AsNext ts rest h = ap (λ l. Some (l ++ rest)) h

-- Declarations

-- what follows a declared name
record BehindName (rest : List Token) : Type 0 where
  stops : Stops 13 rest
  unassigned : mark_ahead mark.Assign rest ≡ false

init_reads : (c : ℕ) (v : Option Expr) (ts rest : List Token) → Perhaps (λ value. Sign mark.Assign ▸ SpeltExpr value) v ts → any_placed v ≡ true → any_depth expr_depth v ≤ c → BehindName rest → init_at c (ts ++ rest) ≡ Some (pair v rest)
unfolding init_at
init_reads c None ts rest h p d f = ap (λ l. init_at c (l ++ rest)) h ∙ if_no (mark_ahead mark.Assign rest) _ _ f.unassigned refl
init_reads c (Some e) ts rest (us, ys, is, (at, isu), h) p d f =
    let gets : ts ≡ token (kind.Mark mark.Assign) at ∷ ys = is ∙ ap (λ l. l ++ ys) isu in
    if_yes (mark_ahead mark.Assign (ts ++ rest)) _ _ (mark_seen mark.Assign ts at ys rest gets)
    (bind_is (mark_at mark.Assign (ts ++ rest)) _ (mark_read mark.Assign ts at ys rest gets)
    (bind_is (value_at c (ys ++ rest)) _ (value_reads c e ys rest h p d f.stops) refl))

declared_reads : (b : ℕ) (d : Declared) (ts rest : List Token) → SpeltDeclared d ts → declared_placed d ≡ true → declared_depth d ≤ b → BehindName rest → declared_at b (ts ++ rest) ≡ Some (pair d rest)
unfolding declared_at inside
declared_reads zero d ts rest h p n f = absurd (omega arith)
declared_reads (suc c) d ts rest (us, ys, is, (at, isu), h) p n f =
    bind_is (word_at (ts ++ rest)) _ (word_read d.name ts at ys rest (is ∙ ap (λ l. l ++ ys) isu))
    (bind_is (init_at c (ys ++ rest)) _ (init_reads c d.value ys rest h p (omega arith) f) refl)

abbrev FitDeclared : ℕ → Declared → Type 0
FitDeclared b d = (declared_placed d ≡ true) × (declared_depth d ≤ b)

next_declared_reads : (b : ℕ) (s : List Declared) (d : Declared) (ts rest : List Token) → FitDeclared b d → SpeltDeclared d ts → BehindName rest → (at : Span) → next_declared b s (token (kind.Mark mark.Comma) at ∷ (ts ++ rest)) ≡ Some (pair (s ++ d ∷ []) rest)
unfolding next_declared
next_declared_reads b s d ts rest ok h f at =
    bind_is (mark_at mark.Comma (token (kind.Mark mark.Comma) at ∷ (ts ++ rest))) _ (mark_read mark.Comma (token (kind.Mark mark.Comma) at ∷ []) at [] (ts ++ rest) refl)
    (bind_is (declared_at b (ts ++ rest)) _ (declared_reads b d ts rest h ok.0 ok.1 f) refl)

comma_behind : (at : Span) (ts : List Token) → BehindName (token (kind.Mark mark.Comma) at ∷ ts)
unfolding mark_ahead
comma_behind at ts = record { stops = stops_here mark.Comma at ts refl; unassigned = refl }

names_read : (b : ℕ) (ds : List Declared) (ts rest : List Token) → are_some ds ≡ true → Between (Sign mark.Comma) SpeltDeclared ds ts → list_all declared_placed ds ≡ true → deepest (map declared_depth ds) ≤ b → Closes rest → names_at b (ts ++ rest) ≡ Some (pair ds rest)
unfolding names_at
names_read b [] ts rest some h p d c = cc
names_read b (x ∷ ds) ts rest some (xs, ys, is, h, more) p d c =
    let all = all_fit declared_placed declared_depth b (x ∷ ds) p d in
    let f : BehindName rest = record { stops = closes_stops rest c; unassigned = closes_unassigned rest c } in
    ap (names_at b) (cut _ _ is rest)
    ∙ bind_is (declared_at b (xs ++ (ys ++ rest))) _
    (declared_reads b x xs (ys ++ rest) h all.0.0 all.0.1 (behind_follow (next_declared b) (next_declared_takes b) SpeltDeclared (FitDeclared b) BehindName (next_declared_reads b) comma_behind ds ys rest more f))
    (commas_read (next_declared b) (next_declared_takes b) SpeltDeclared (FitDeclared b) BehindName (next_declared_reads b) comma_behind ds (x ∷ []) ys rest all.1 more f (closes_row rest c))

names_unmarked : (m : Mark) (ds : List Declared) (ts rest : List Token) → are_some ds ≡ true → Between (Sign mark.Comma) SpeltDeclared ds ts → mark_ahead m (ts ++ rest) ≡ false
unfolding mark_ahead
names_unmarked m [] ts rest some h = cc
names_unmarked m (x ∷ ds) ts rest some (xs, ys, is, (us, zs, is', (at, isu), q), more) =
    ap (λ l. mark_ahead m (l ++ rest)) (is ∙ ap (λ l. l ++ ys) (is' ∙ ap (λ l. l ++ zs) isu))

declares_some : (role : Role) (names : List Declared) → may_declare role names ≡ true → are_some names ≡ true
declares_some InBlock names h = h
declares_some AsFirst [] h = cc
declares_some AsFirst (d ∷ names) h = refl
declares_some AsBody names h = cc
declares_some AsNext names h = cc

declare_reads : (role : Role) {takes : Bool} (b : ℕ) (ty : TyTree) (names : List Declared) (ts rest : List Token) → may_declare role names ≡ true → (SpeltTy ty ▸ Between (Sign mark.Comma) SpeltDeclared names ▸ Ending role) ts → ty_placed ty ≡ true → list_all declared_placed names ≡ true → ty_depth ty ≤ b → deepest (map declared_depth names) ≤ b → After role takes rest → declare_at role b (ts ++ rest) ≡ Some (stmt_of (ts ++ rest) (form.Declare ty names) rest)
unfolding declare_at
declare_reads role b ty names ts rest may (us, ys, is, ht, (vs, ws, is', hn, he)) p q d e after =
    let some = declares_some role names may in
    let names_head : mark_ahead mark.OpenBracket (ys ++ rest) ≡ false = ap (mark_ahead mark.OpenBracket) (cut _ _ is' rest) ∙ names_unmarked mark.OpenBracket names vs (ws ++ rest) some hn in
    bind_is (ty_at b (ts ++ rest)) _ (ap (ty_at b) (cut _ _ is rest) ∙ ty_reads b ty us (ys ++ rest) ht p d names_head)
    (bind_is (names_at b (ys ++ rest)) _ (ap (names_at b) (cut _ _ is' rest) ∙ names_read b names vs (ws ++ rest) some hn q e (ending_closes role ws rest he after))
    (bind_is (only (may_declare role names) (end_at role (ws ++ rest))) _ (if_yes (may_declare role names) _ _ may (end_reads role ws rest he)) refl))

-- Statements that are built of one form

stmt_made : (s : Span) (l : Layer) (f : Form) (start ts rest : List Token) → roll-Form l ≡ f → start ≡ ts ++ rest → s ≡ span_of ts → Some (stmt_of start f rest) ≡ Some (pair (stmt s (roll-Form l)) rest)
unfolding stmt_of
stmt_made s l f start ts rest rolls is span =
    let sp : span_between start rest ≡ s = ap (λ x. span_between x rest) is ∙ span_take ts rest ∙ sym span in
    λ i. Some (pair (stmt (sp i) (sym rolls i)) rest)

-- what is known of the form of a statement
record Opened (s : Span) (l : Layer) (role : Role) (ts : List Token) (b : ℕ) (rest : List Token) : Type 0 where
  spelt : FormLayer l role ts
  span : s ≡ span_of ts
  placed : (form_stand (stand_layer l)).placed ≡ true
  within : form_depth (depth_layer l) ≤ b
  after : After role (form_stand (stand_layer l)).takes_else rest

LayerReads : Span → Layer → Type 0
LayerReads s l = (b : ℕ) (role : Role) (ts rest : List Token) → Opened s l role ts b rest → form_at (stmt_at b) b role (ts ++ rest) ≡ Some (pair (stmt s (roll-Form l)) rest)

-- the statement is read in each role
pub record StmtReads (s : Stmt) : Type 0 where
  pub reads : (b : ℕ) (role : Role) (ts rest : List Token) → SpeltStmt s role ts → (stand_of s).placed ≡ true → stmt_depth s ≤ b → After role (stand_of s).takes_else rest → stmt_at b role (ts ++ rest) ≡ Some (pair s rest)

node_reads : (s : Span) (l : Layer) → LayerReads s l → StmtReads (stmt s (roll-Form l))
unfolding LayerReads stmt_at
node_reads s l h = record { reads = go }
  where
    go : (b : ℕ) (role : Role) (ts rest : List Token) → SpeltStmt (stmt s (roll-Form l)) role ts → (stand_of (stmt s (roll-Form l))).placed ≡ true → stmt_depth (stmt s (roll-Form l)) ≤ b → After role (stand_of (stmt s (roll-Form l))).takes_else rest → stmt_at b role (ts ++ rest) ≡ Some (pair (stmt s (roll-Form l)) rest)
    go zero role ts rest spelt placed within after = absurd (omega (arith, stmt_depth_is s l (roll-Form l) refl, within))
    go (suc b) role ts rest spelt placed within after =
        let o = subst (λ (P : Phrase). P ts) (spelt_is s l (roll-Form l) role refl) spelt in
        let st = stand_is s l (roll-Form l) refl in
        h b role ts rest (record {
          spelt = o.0;
          span = o.1;
          placed = sym (ap (λ (q : Stand). q.placed) st) ∙ placed;
          within = omega (arith, stmt_depth_is s l (roll-Form l) refl, within);
          after = subst (λ t. After role t rest) (ap (λ (q : Stand). q.takes_else) st) after;
        })

-- Targets and calls

-- what begins with a target or a call goes on behind it
simple_form : (b : ℕ) (role : Role) (e : Expr) (ts rest : List Token) → is_front e ≡ true → SpeltExpr e ts → expr_placed e ≡ true → expr_depth e ≤ b → Stops 13 rest → word_at rest ≡ None → form_at (stmt_at b) b role (ts ++ rest) ≡ behind_target role b (ts ++ rest) e rest
unfolding form_at named_at simple_at
simple_form b role e ts rest front h p d stops unworded =
    let low = (opens e).low front in
    let f = (opens e).front front ts h in
    dispatch f.what f.at f.behind f.is f.good (declare_not role b e ts rest h p low (stops_less rest stops) unworded)
    ∙ bind_is (base_at b (ts ++ rest)) _ (base_reads b e ts rest h p d low (stops_less rest stops)) refl
  where
    dispatch : (k : Kind) (at : Span) (behind : List Token) → ts ≡ token k at ∷ behind → is_front_kind k ≡ true → declare_at role b (ts ++ rest) ≡ None → form_at (stmt_at b) b role (ts ++ rest) ≡ simple_at role b (ts ++ rest)
    dispatch (kind.Word x) at behind is good none =
        let start = token (kind.Word x) at ∷ (behind ++ rest) in
        let p : ts ++ rest ≡ start = ap (λ l. l ++ rest) is in
        ap (form_at (stmt_at b) b role) p ∙ ap (λ (o : Option (Stmt × List Token)). or_else o (simple_at role b start)) (ap (declare_at role b) (sym p) ∙ none) ∙ ap (simple_at role b) (sym p)
    dispatch (kind.Mark mark.OpenPattern) at behind is good none =
        let p : ts ++ rest ≡ token (kind.Mark mark.OpenPattern) at ∷ (behind ++ rest) = ap (λ l. l ++ rest) is in
        ap (form_at (stmt_at b) b role) p ∙ ap (simple_at role b) (sym p)
    dispatch _ at behind is good none = cc

assign_reads : (s : Span) (target value : Expr) → LayerReads s (F.Assign target value)
unfolding LayerReads behind_target assign_at
assign_reads s target value b role ts rest o = go o.spelt
  where
    go : (SpeltTarget target ▸ Sign mark.Assign ▸ SpeltExpr value ▸ Ending role) ts → form_at (stmt_at b) b role (ts ++ rest) ≡ Some (pair (stmt s (roll-Form (F.Assign target value))) rest)
    go (xs, ys, is, (target_is, h), (us, zs, is', (at, isu), (vs, ws, is'', hv, he))) =
        let gets : ys ≡ token (kind.Mark mark.Assign) at ∷ zs = is' ∙ ap (λ l. l ++ zs) isu in
        let start = xs ++ (ys ++ rest) in
        let p : ts ++ rest ≡ start = cut _ _ is rest in
        let ps = both_true (expr_placed target) (expr_placed value) o.placed in
        ap (form_at (stmt_at b) b role) p
        ∙ simple_form b role target xs (ys ++ rest) (front_of_target target target_is) h ps.0 (omega (arith, o.within)) (stops_at mark.Assign ys at zs rest gets refl) (unworded mark.Assign ys at zs rest gets)
        ∙ ap (λ l. behind_target role b start target (l ++ rest)) gets
        ∙ if_yes (is_target target) _ _ target_is
        (bind_is (value_at b (zs ++ rest)) _ (ap (value_at b) (cut _ _ is'' rest) ∙ value_reads b value vs (ws ++ rest) hv ps.1 (omega (arith, o.within)) (closes_stops (ws ++ rest) (ending_closes role ws rest he o.after)))
        (bind_is (end_at role (ws ++ rest)) _ (end_reads role ws rest he)
        (stmt_made s (F.Assign target value) (form.Assign target value) start ts rest (form.rolls-Assign target value) (sym p) o.span)))

call_reads : (s : Span) (e : Expr) → LayerReads s (F.Call e)
unfolding LayerReads behind_target call_at
call_reads s e b role ts rest o = go o.spelt.0 o.spelt.1.0 o.spelt.1.1
  where
    go : is_whole role ≡ true → is_call e ≡ true → (SpeltExpr e ▸ Sign mark.Semicolon) ts → form_at (stmt_at b) b role (ts ++ rest) ≡ Some (pair (stmt s (roll-Form (F.Call e))) rest)
    go w c (xs, ys, is, h, (end, isy)) =
        let start = xs ++ (ys ++ rest) in
        let p : ts ++ rest ≡ start = cut _ _ is rest in
        ap (form_at (stmt_at b) b role) p
        ∙ simple_form b role e xs (ys ++ rest) (front_of_call e c) h o.placed o.within (stops_at mark.Semicolon ys end [] rest isy refl) (unworded mark.Semicolon ys end [] rest isy)
        ∙ ap (λ l. behind_target role b start e (l ++ rest)) isy
        ∙ if_yes (is_whole role && is_call e) _ _ (both w c)
        (stmt_made s (F.Call e) (form.Call e) start ts rest (form.rolls-Call e) (sym p) o.span)

-- `++` or `--` behind a target
post_reads : (s : Span) (k : StepKind) (m : Mark) (target : Expr) → SpeltStep k target None ≡ (SpeltTarget target ▸ Sign m) → ends_expr (kind.Mark m) ≡ true → ((role : Role) (b : ℕ) (start : List Token) (at : Span) (us : List Token) → behind_target role b start target (token (kind.Mark m) at ∷ us) ≡ turn_at role k start target us) → LayerReads s (F.Step k target None)
unfolding LayerReads turn_at
post_reads s k m target spelt ends turns b role ts rest o = go o.spelt.0 (subst (λ (P : Phrase). (P ▸ Ending role) ts) spelt o.spelt.1)
  where
    go : may_step role ≡ true → ((SpeltTarget target ▸ Sign m) ▸ Ending role) ts → form_at (stmt_at b) b role (ts ++ rest) ≡ Some (pair (stmt s (roll-Form (F.Step k target None))) rest)
    go may (xs, ys, is, (vs, ws, is', (target_is, h), (at, isw)), he) =
        let start = vs ++ (ws ++ (ys ++ rest)) in
        let p : ts ++ rest ≡ start = cut _ _ is rest ∙ cut _ _ is' (ys ++ rest) in
        let ps = both_true (expr_placed target) true o.placed in
        ap (form_at (stmt_at b) b role) p
        ∙ simple_form b role target vs (ws ++ (ys ++ rest)) (front_of_target target target_is) h ps.0 (omega (arith, o.within)) (stops_at m ws at [] (ys ++ rest) isw ends) (unworded m ws at [] (ys ++ rest) isw)
        ∙ ap (λ l. behind_target role b start target (l ++ (ys ++ rest))) isw
        ∙ turns role b start at (ys ++ rest)
        ∙ if_yes (may_step role && is_target target) _ _ (both may target_is)
        (bind_is (end_at role (ys ++ rest)) _ (end_reads role ys rest he)
        (stmt_made s (F.Step k target None) (form.Step k target None) start ts rest (form.rolls-Step k target None) (sym p) o.span))

-- `++` or `--` before a target
pre_reads : (s : Span) (k : StepKind) (m : Mark) (target : Expr) → SpeltStep k target None ≡ (Sign m ▸ SpeltTarget target) → ((role : Role) (b : ℕ) (at : Span) (us : List Token) → form_at (stmt_at b) b role (token (kind.Mark m) at ∷ us) ≡ before_at role b k (token (kind.Mark m) at ∷ us) us) → LayerReads s (F.Step k target None)
unfolding LayerReads before_at
pre_reads s k m target spelt forms b role ts rest o = go o.spelt.0 (subst (λ (P : Phrase). (P ▸ Ending role) ts) spelt o.spelt.1)
  where
    go : may_step role ≡ true → ((Sign m ▸ SpeltTarget target) ▸ Ending role) ts → form_at (stmt_at b) b role (ts ++ rest) ≡ Some (pair (stmt s (roll-Form (F.Step k target None))) rest)
    go may (xs, ys, is, (us, vs, is', (at, isu), (target_is, h)), he) =
        let start = token (kind.Mark m) at ∷ (vs ++ (ys ++ rest)) in
        let p : ts ++ rest ≡ start = cut _ _ is rest ∙ cut _ _ is' (ys ++ rest) ∙ ap (λ l. l ++ (vs ++ (ys ++ rest))) isu in
        let ps = both_true (expr_placed target) true o.placed in
        let ends = closes_stops (ys ++ rest) (ending_closes role ys rest he o.after) in
        ap (form_at (stmt_at b) b role) p
        ∙ forms role b at (vs ++ (ys ++ rest))
        ∙ bind_is (base_at b (vs ++ (ys ++ rest))) _ (base_reads b target vs (ys ++ rest) h ps.0 (omega (arith, o.within)) ((opens target).low (front_of_target target target_is)) (stops_less (ys ++ rest) ends))
        (bind_is (only (may_step role && is_target target) (end_at role (ys ++ rest))) _ (if_yes (may_step role && is_target target) _ _ (both may target_is) (end_reads role ys rest he))
        (stmt_made s (F.Step k target None) (form.Step k target None) start ts rest (form.rolls-Step k target None) (sym p) o.span))

-- `+=` or `-=` behind a target
add_reads : (s : Span) (k : StepKind) (m : Mark) (target v : Expr) → SpeltStep k target (Some v) ≡ (SpeltTarget target ▸ Sign m ▸ SpeltExpr v) → ends_expr (kind.Mark m) ≡ true → ((role : Role) (b : ℕ) (start : List Token) (at : Span) (us : List Token) → behind_target role b start target (token (kind.Mark m) at ∷ us) ≡ add_at role b k start target us) → LayerReads s (F.Step k target (Some v))
unfolding LayerReads add_at
add_reads s k m target v spelt ends adds b role ts rest o = go o.spelt.0 (subst (λ (P : Phrase). (P ▸ Ending role) ts) spelt o.spelt.1)
  where
    go : may_step role ≡ true → ((SpeltTarget target ▸ Sign m ▸ SpeltExpr v) ▸ Ending role) ts → form_at (stmt_at b) b role (ts ++ rest) ≡ Some (pair (stmt s (roll-Form (F.Step k target (Some v)))) rest)
    go may (xs, ys, is, (vs, ws, is', (target_is, h), (us, zs, is'', (at, isu), hv)), he) =
        let sign : ws ≡ token (kind.Mark m) at ∷ zs = is'' ∙ ap (λ l. l ++ zs) isu in
        let start = vs ++ (ws ++ (ys ++ rest)) in
        let p : ts ++ rest ≡ start = cut _ _ is rest ∙ cut _ _ is' (ys ++ rest) in
        let ps = both_true (expr_placed target) (expr_placed v) o.placed in
        ap (form_at (stmt_at b) b role) p
        ∙ simple_form b role target vs (ws ++ (ys ++ rest)) (front_of_target target target_is) h ps.0 (omega (arith, o.within)) (stops_at m ws at zs (ys ++ rest) sign ends) (unworded m ws at zs (ys ++ rest) sign)
        ∙ ap (λ l. behind_target role b start target (l ++ (ys ++ rest))) sign
        ∙ adds role b start at (zs ++ (ys ++ rest))
        ∙ if_yes (may_step role && is_target target) _ _ (both may target_is)
        (bind_is (value_at b (zs ++ (ys ++ rest))) _ (value_reads b v zs (ys ++ rest) hv ps.1 (omega (arith, o.within)) (closes_stops (ys ++ rest) (ending_closes role ys rest he o.after)))
        (bind_is (end_at role (ys ++ rest)) _ (end_reads role ys rest he)
        (stmt_made s (F.Step k target (Some v)) (form.Step k target (Some v)) start ts rest (form.rolls-Step k target (Some v)) (sym p) o.span)))

-- a declaration, by what its type begins with
declare_form : (b : ℕ) (role : Role) (k : Base) (us behind : List Token) (x : Stmt × List Token) → SpeltBase k us → declare_at role b (us ++ behind) ≡ Some x → form_at (stmt_at b) b role (us ++ behind) ≡ Some x
unfolding form_at named_at
declare_form b role base.Int us behind x (at, is) e = ap (λ l. form_at (stmt_at b) b role (l ++ behind)) is ∙ ap (λ l. declare_at role b (l ++ behind)) (sym is) ∙ e
declare_form b role base.Bit us behind x (at, is) e = ap (λ l. form_at (stmt_at b) b role (l ++ behind)) is ∙ ap (λ l. declare_at role b (l ++ behind)) (sym is) ∙ e
declare_form b role (base.Named y) us behind x (at, is) e =
    let start = token (kind.Word y) at ∷ behind in
    ap (λ l. form_at (stmt_at b) b role (l ++ behind)) is
    ∙ ap (λ (o : Option (Stmt × List Token)). or_else o (simple_at role b start)) (ap (λ l. declare_at role b (l ++ behind)) (sym is) ∙ e)

declaration_reads : (s : Span) (ty : TyTree) (names : List Declared) → LayerReads s (F.Declare ty names)
unfolding LayerReads
declaration_reads s ty names b role ts rest o = go o.spelt.0 o.spelt.1
  where
    go : may_declare role names ≡ true → (SpeltTy ty ▸ Between (Sign mark.Comma) SpeltDeclared names ▸ Ending role) ts → form_at (stmt_at b) b role (ts ++ rest) ≡ Some (pair (stmt s (roll-Form (F.Declare ty names))) rest)
    go may (us, ys, is, (few, (bs, ls, is', hb, each)), q) =
        let ps = both_true (ty_placed ty) (list_all declared_placed names) o.placed in
        let reads : declare_at role b (ts ++ rest) ≡ Some (stmt_of (ts ++ rest) (form.Declare ty names) rest) = declare_reads role b ty names ts rest may (us, ys, is, (few, (bs, ls, is', hb, each)), q) ps.0 ps.1 (omega (arith, o.within)) (omega (arith, o.within)) o.after in
        let p : ts ++ rest ≡ bs ++ (ls ++ (ys ++ rest)) = cut _ _ is rest ∙ cut _ _ is' (ys ++ rest) in
        ap (form_at (stmt_at b) b role) p
        ∙ declare_form b role ty.base bs (ls ++ (ys ++ rest)) (stmt_of (ts ++ rest) (form.Declare ty names) rest) hb (ap (declare_at role b) (sym p) ∙ reads)
        ∙ stmt_made s (F.Declare ty names) (form.Declare ty names) (ts ++ rest) ts rest (form.rolls-Declare ty names) refl o.span

-- Statements with expressions alone

parens_read : (b : ℕ) (c : Expr) (ts rest : List Token) → SpeltParens c ts → expr_placed c ≡ true → expr_depth c ≤ b → parens_at b (ts ++ rest) ≡ Some (pair c rest)
unfolding parens_at
parens_read b c ts rest (us, ys, is, (at, isu), (vs, ws, is', h, (end, isw))) p d =
    let front : ts ≡ token (kind.Mark mark.OpenParen) at ∷ ys = is ∙ ap (λ l. l ++ ys) isu in
    bind_is (mark_at mark.OpenParen (ts ++ rest)) _ (mark_read mark.OpenParen ts at ys rest front)
    (bind_is (value_at b (ys ++ rest)) _ (ap (value_at b) (cut _ _ is' rest) ∙ value_reads b c vs (ws ++ rest) h p d (stops_at mark.CloseParen ws end [] rest isw refl))
    (bind_is (mark_at mark.CloseParen (ws ++ rest)) _ (mark_read mark.CloseParen ws end [] rest isw) refl))

-- a value before a semicolon
before_semicolon : (b : ℕ) (e : Expr) (vs ws : List Token) (end : Span) (rest : List Token) → SpeltExpr e vs → expr_placed e ≡ true → expr_depth e ≤ b → ws ≡ token (kind.Mark mark.Semicolon) end ∷ [] → value_at b (vs ++ (ws ++ rest)) ≡ Some (pair e (ws ++ rest))
before_semicolon b e vs ws end rest h p d is = value_reads b e vs (ws ++ rest) h p d (stops_at mark.Semicolon ws end [] rest is refl)

-- no value begins with a semicolon
value_opens : (b : ℕ) (ts : List Token) (e : Expr) (rest : List Token) → value_at b ts ≡ Some (pair e rest) → mark_ahead mark.Semicolon ts ≡ false
unfolding value_at
value_opens b ts e rest reads = go (mark_ahead mark.Semicolon ts) refl
  where
    go : (c : Bool) → mark_ahead mark.Semicolon ts ≡ c → mark_ahead mark.Semicolon ts ≡ false
    go false h = h
    go true h =
        let at = ahead_stands mark.Semicolon ts h in
        let none : value_at b ts ≡ None = ap (value_at b) at.1.is ∙ ap (λ (o : Option (Deep × List Token)). o >>= λ x. Some (pair x.0.expr x.1)) (semicolon_reads_not (offers true) b at.1.at at.0) in
        let bad : None ≡ Some (pair e rest) = sym none ∙ reads in
        absurd (cc)

empty_reads : (s : Span) → LayerReads s F.Empty
unfolding LayerReads form_at whole_at
empty_reads s b role ts rest o = go o.spelt.0 o.spelt.1
  where
    go : is_whole role ≡ true → Sign mark.Semicolon ts → form_at (stmt_at b) b role (ts ++ rest) ≡ Some (pair (stmt s (roll-Form F.Empty)) rest)
    go w (at, is) =
        ap (λ u. form_at (stmt_at b) b role (u ++ rest)) is
        ∙ if_yes (is_whole role) _ _ w (stmt_made s F.Empty form.Empty (token (kind.Mark mark.Semicolon) at ∷ rest) ts rest form.rolls-Empty (sym (ap (λ u. u ++ rest) is)) o.span)

return_reads : (s : Span) → LayerReads s (F.Return None)
unfolding LayerReads form_at whole_at return_at
return_reads s b role ts rest o = go o.spelt.0 o.spelt.1
  where
    go : is_whole role ≡ true → (Keyword key.Return ▸ Nothing ▸ Sign mark.Semicolon) ts → form_at (stmt_at b) b role (ts ++ rest) ≡ Some (pair (stmt s (roll-Form (F.Return None))) rest)
    go w (us, ys, is, (at, isu), (vs, ws, is', nothing, (end, isw))) =
        let front : ts ≡ token (kind.Key key.Return) at ∷ ys = is ∙ ap (λ l. l ++ ys) isu in
        let semicolon : ys ≡ token (kind.Mark mark.Semicolon) end ∷ [] = is' ∙ ap (λ l. l ++ ws) nothing ∙ isw in
        ap (λ u. form_at (stmt_at b) b role (u ++ rest)) front
        ∙ if_yes (is_whole role) _ _ w
        (if_yes (mark_ahead mark.Semicolon (ys ++ rest)) _ _ (mark_seen mark.Semicolon ys end [] rest semicolon)
        (bind_is (mark_at mark.Semicolon (ys ++ rest)) _ (mark_read mark.Semicolon ys end [] rest semicolon)
        (stmt_made s (F.Return None) (form.Return None) (token (kind.Key key.Return) at ∷ (ys ++ rest)) ts rest (form.rolls-Return None) (sym (ap (λ u. u ++ rest) front)) o.span)))

return_value_reads : (s : Span) (e : Expr) → LayerReads s (F.Return (Some e))
unfolding LayerReads form_at whole_at return_at return_value_at
return_value_reads s e b role ts rest o = go o.spelt.0 o.spelt.1
  where
    go : is_whole role ≡ true → (Keyword key.Return ▸ SpeltExpr e ▸ Sign mark.Semicolon) ts → form_at (stmt_at b) b role (ts ++ rest) ≡ Some (pair (stmt s (roll-Form (F.Return (Some e)))) rest)
    go w (us, ys, is, (at, isu), (vs, ws, is', h, (end, isw))) =
        let front : ts ≡ token (kind.Key key.Return) at ∷ ys = is ∙ ap (λ l. l ++ ys) isu in
        let reads : value_at b (ys ++ rest) ≡ Some (pair e (ws ++ rest)) = ap (value_at b) (cut _ _ is' rest) ∙ before_semicolon b e vs ws end rest h o.placed o.within isw in
        ap (λ u. form_at (stmt_at b) b role (u ++ rest)) front
        ∙ if_yes (is_whole role) _ _ w
        (if_no (mark_ahead mark.Semicolon (ys ++ rest)) _ _ (value_opens b (ys ++ rest) e (ws ++ rest) reads)
        (bind_is (value_at b (ys ++ rest)) _ reads
        (bind_is (mark_at mark.Semicolon (ws ++ rest)) _ (mark_read mark.Semicolon ws end [] rest isw)
        (stmt_made s (F.Return (Some e)) (form.Return (Some e)) (token (kind.Key key.Return) at ∷ (ys ++ rest)) ts rest (form.rolls-Return (Some e)) (sym (ap (λ u. u ++ rest) front)) o.span))))

assert_reads : (s : Span) (e : Expr) → LayerReads s (F.Assert e)
unfolding LayerReads form_at whole_at assert_at
assert_reads s e b role ts rest o = go o.spelt.0 o.spelt.1
  where
    go : is_whole role ≡ true → (Keyword key.Assert ▸ SpeltExpr e ▸ Sign mark.Semicolon) ts → form_at (stmt_at b) b role (ts ++ rest) ≡ Some (pair (stmt s (roll-Form (F.Assert e))) rest)
    go w (us, ys, is, (at, isu), (vs, ws, is', h, (end, isw))) =
        let front : ts ≡ token (kind.Key key.Assert) at ∷ ys = is ∙ ap (λ l. l ++ ys) isu in
        ap (λ u. form_at (stmt_at b) b role (u ++ rest)) front
        ∙ if_yes (is_whole role) _ _ w
        (bind_is (value_at b (ys ++ rest)) _ (ap (value_at b) (cut _ _ is' rest) ∙ before_semicolon b e vs ws end rest h o.placed o.within isw)
        (bind_is (mark_at mark.Semicolon (ws ++ rest)) _ (mark_read mark.Semicolon ws end [] rest isw)
        (stmt_made s (F.Assert e) (form.Assert e) (token (kind.Key key.Assert) at ∷ (ys ++ rest)) ts rest (form.rolls-Assert e) (sym (ap (λ u. u ++ rest) front)) o.span)))

assume_reads : (s : Span) (e : Expr) → LayerReads s (F.Assume e)
unfolding LayerReads form_at whole_at assume_at
assume_reads s e b role ts rest o = go o.spelt.0 o.spelt.1
  where
    go : is_whole role ≡ true → (Keyword key.Assume ▸ SpeltExpr e ▸ Sign mark.Semicolon) ts → form_at (stmt_at b) b role (ts ++ rest) ≡ Some (pair (stmt s (roll-Form (F.Assume e))) rest)
    go w (us, ys, is, (at, isu), (vs, ws, is', h, (end, isw))) =
        let front : ts ≡ token (kind.Key key.Assume) at ∷ ys = is ∙ ap (λ l. l ++ ys) isu in
        ap (λ u. form_at (stmt_at b) b role (u ++ rest)) front
        ∙ if_yes (is_whole role) _ _ w
        (bind_is (value_at b (ys ++ rest)) _ (ap (value_at b) (cut _ _ is' rest) ∙ before_semicolon b e vs ws end rest h o.placed o.within isw)
        (bind_is (mark_at mark.Semicolon (ws ++ rest)) _ (mark_read mark.Semicolon ws end [] rest isw)
        (stmt_made s (F.Assume e) (form.Assume e) (token (kind.Key key.Assume) at ∷ (ys ++ rest)) ts rest (form.rolls-Assume e) (sym (ap (λ u. u ++ rest) front)) o.span)))

minimize_reads : (s : Span) (e : Expr) → LayerReads s (F.Minimize e)
unfolding LayerReads form_at whole_at minimize_at
minimize_reads s e b role ts rest o = go o.spelt.0 o.spelt.1
  where
    go : is_whole role ≡ true → (Keyword key.Minimize ▸ SpeltParens e ▸ Sign mark.Semicolon) ts → form_at (stmt_at b) b role (ts ++ rest) ≡ Some (pair (stmt s (roll-Form (F.Minimize e))) rest)
    go w (us, ys, is, (at, isu), (vs, ws, is', h, (end, isw))) =
        let front : ts ≡ token (kind.Key key.Minimize) at ∷ ys = is ∙ ap (λ l. l ++ ys) isu in
        ap (λ u. form_at (stmt_at b) b role (u ++ rest)) front
        ∙ if_yes (is_whole role) _ _ w
        (bind_is (parens_at b (ys ++ rest)) _ (ap (parens_at b) (cut _ _ is' rest) ∙ parens_read b e vs (ws ++ rest) h o.placed o.within)
        (bind_is (mark_at mark.Semicolon (ws ++ rest)) _ (mark_read mark.Semicolon ws end [] rest isw)
        (stmt_made s (F.Minimize e) (form.Minimize e) (token (kind.Key key.Minimize) at ∷ (ys ++ rest)) ts rest (form.rolls-Minimize e) (sym (ap (λ u. u ++ rest) front)) o.span)))

-- Statements in a block

abbrev pub Known : Type 0
Known = (s : Stmt) × StmtReads s

abbrev pub names : List Known → List Stmt
names qs = map (λ q. q.0) qs

-- nothing stands in a block before its brace: neither a brace nor an `else` begins a statement
brace_reads_not : (b : ℕ) (s : Span) (ts : List Token) → stmt_at b InBlock (token (kind.Mark mark.CloseBrace) s ∷ ts) ≡ None
unfolding stmt_at form_at whole_at
brace_reads_not zero s ts = refl
brace_reads_not (suc b) s ts = refl

else_reads_not : (b : ℕ) (s : Span) (ts : List Token) → stmt_at b InBlock (token (kind.Key key.Else) s ∷ ts) ≡ None
unfolding stmt_at form_at whole_at
else_reads_not zero s ts = refl
else_reads_not (suc b) s ts = refl

nothing_reads_not : (b : ℕ) → stmt_at b InBlock [] ≡ None
unfolding stmt_at form_at
nothing_reads_not zero = refl
nothing_reads_not (suc b) = refl

record Heads (ts : List Token) : Type 0 where
  brace : (rest : List Token) → ends_block (ts ++ rest) ≡ false
  else_ : (rest : List Token) → key_ahead key.Else (ts ++ rest) ≡ false

no_brace : (b : ℕ) (x : Stmt × List Token) (ts : List Token) → stmt_at b InBlock ts ≡ Some x → (c : Bool) → mark_ahead mark.CloseBrace ts ≡ c → mark_ahead mark.CloseBrace ts ≡ false
no_brace b x ts reads false e = e
no_brace b x ts reads true e =
    let at = ahead_stands mark.CloseBrace ts e in
    let bad : None ≡ Some x = sym (ap (stmt_at b InBlock) at.1.is ∙ brace_reads_not b at.1.at at.0) ∙ reads in
    absurd (cc)

no_else : (b : ℕ) (x : Stmt × List Token) (ts : List Token) → stmt_at b InBlock ts ≡ Some x → (c : Bool) → key_ahead key.Else ts ≡ c → key_ahead key.Else ts ≡ false
no_else b x ts reads false e = e
no_else b x ts reads true e =
    let at = key_ahead_stands key.Else ts e in
    let bad : None ≡ Some x = sym (ap (stmt_at b InBlock) at.1.is ∙ else_reads_not b at.1.at at.0) ∙ reads in
    absurd (cc)

read_heads : (b : ℕ) (x : Stmt × List Token) (ts : List Token) → stmt_at b InBlock ts ≡ Some x → Heads ts
unfolding ends_block key_ahead mark_ahead
read_heads b x [] reads = let bad : None ≡ Some x = sym (nothing_reads_not b) ∙ reads in absurd (cc)
read_heads b x (t ∷ ts) reads = record { brace = λ rest. no_brace b x (t ∷ ts) reads (mark_ahead mark.CloseBrace (t ∷ ts)) refl; else_ = λ rest. no_else b x (t ∷ ts) reads (key_ahead key.Else (t ∷ ts)) refl }

stmt_heads : (b : ℕ) (s : Stmt) → StmtReads s → (ts : List Token) → SpeltStmt s InBlock ts → (stand_of s).placed ≡ true → stmt_depth s ≤ b → Heads ts
unfolding key_ahead
stmt_heads b s known ts h p d =
    read_heads b (pair s []) ts (sym (ap (stmt_at b InBlock) (append-nil ts)) ∙ known.reads b InBlock ts [] h p d (record { no_else = λ _. refl; closed = λ e. absurd (cc) }))

abbrev Stmts : List Known → Phrase
Stmts qs = Each (λ s. SpeltStmt s InBlock) (names qs)

no_else_behind : (b : ℕ) (qs : List Known) (ts rest : List Token) → Stmts qs ts → all_stand (map stand_of (names qs)) ≡ true → deepest (map stmt_depth (names qs)) ≤ b → ends_block rest ≡ true → key_ahead key.Else (ts ++ rest) ≡ false
unfolding ends_block key_ahead
no_else_behind b [] ts rest h p d brace = ap (λ l. key_ahead key.Else (l ++ rest)) h ∙ ap (key_ahead key.Else) (ahead_stands mark.CloseBrace rest brace).1.is
no_else_behind b (q ∷ qs) ts rest (xs, ys, is, h, more) p d brace =
    let ps = both_true (stand_of q.0).placed (all_stand (map stand_of (names qs))) p in
    ap (key_ahead key.Else) (cut xs ys is rest) ∙ (stmt_heads b q.0 q.1 xs h ps.0 (omega arith)).else_ (ys ++ rest)

stmts_read : (b : ℕ) (qs : List Known) (so_far : List Stmt) (ts rest : List Token) → Stmts qs ts → all_stand (map stand_of (names qs)) ≡ true → deepest (map stmt_depth (names qs)) ≤ b → ends_block rest ≡ true → repeated ends_block (next_stmt (stmt_at b)) so_far (ts ++ rest) ≡ Some (pair (so_far ++ names qs) rest)
unfolding next_stmt
stmts_read b [] so_far ts rest h p d brace =
    ap (λ l. repeated ends_block (next_stmt (stmt_at b)) so_far (l ++ rest)) h ∙ repeated_ends ends_block (next_stmt (stmt_at b)) so_far rest brace ∙ (λ i. Some (pair (sym (append-nil so_far) i) rest))
stmts_read b (q ∷ qs) so_far ts rest (xs, ys, is, h, more) p d brace =
    let ps = both_true (stand_of q.0).placed (all_stand (map stand_of (names qs))) p in
    let within : stmt_depth q.0 ≤ b = omega arith in
    let after : After InBlock (stand_of q.0).takes_else (ys ++ rest) = record { no_else = λ _. no_else_behind b qs ys rest more ps.1 (omega arith) brace; closed = λ e. absurd (cc) } in
    ap (repeated ends_block (next_stmt (stmt_at b)) so_far) (cut _ _ is rest)
    ∙ repeated_more ends_block (next_stmt (stmt_at b)) (next_stmt_takes b) so_far (xs ++ (ys ++ rest)) (so_far ++ q.0 ∷ []) (ys ++ rest) ((stmt_heads b q.0 q.1 xs h ps.0 within).brace (ys ++ rest)) (bind_is (stmt_at b InBlock (xs ++ (ys ++ rest))) _ (q.1.reads b InBlock xs (ys ++ rest) h ps.0 within after) refl)
    ∙ stmts_read b qs (so_far ++ q.0 ∷ []) ys rest more ps.1 (omega arith) brace
    ∙ (λ i. Some (pair (append_assoc so_far (q.0 ∷ []) (names qs) i) rest))

-- statements, and the brace behind them
pub block_reads : (b : ℕ) (qs : List Known) (ts rest : List Token) → (Stmts qs ▸ Sign mark.CloseBrace) ts → all_stand (map stand_of (names qs)) ≡ true → deepest (map stmt_depth (names qs)) ≤ b → stmts_at (stmt_at b) (ts ++ rest) ≡ Some (pair (names qs) rest)
unfolding stmts_at ends_block
block_reads b qs ts rest (xs, ys, is, h, (end, isy)) p d =
    bind_is (repeated ends_block (next_stmt (stmt_at b)) [] (ts ++ rest)) _ (ap (repeated ends_block (next_stmt (stmt_at b)) []) (cut _ _ is rest) ∙ stmts_read b qs [] xs (ys ++ rest) h p d (mark_seen mark.CloseBrace ys end [] rest isy))
    (bind_is (mark_at mark.CloseBrace (ys ++ rest)) _ (mark_read mark.CloseBrace ys end [] rest isy) refl)

-- Statements with statements inside

block_form : (s : Span) (qs : List Known) → LayerReads s (F.Block (names qs))
unfolding LayerReads form_at whole_at block_at
block_form s qs b role ts rest o = go o.spelt.0 o.spelt.1
  where
    go : is_whole role ≡ true → (Sign mark.OpenBrace ▸ Stmts qs ▸ Sign mark.CloseBrace) ts → form_at (stmt_at b) b role (ts ++ rest) ≡ Some (pair (stmt s (roll-Form (F.Block (names qs)))) rest)
    go w (us, ys, is, (at, isu), h) =
        let front : ts ≡ token (kind.Mark mark.OpenBrace) at ∷ ys = is ∙ ap (λ l. l ++ ys) isu in
        ap (λ u. form_at (stmt_at b) b role (u ++ rest)) front
        ∙ if_yes (is_whole role) _ _ w
        (bind_is (stmts_at (stmt_at b) (ys ++ rest)) _ (block_reads b qs ys rest h o.placed o.within)
        (stmt_made s (F.Block (names qs)) (form.Block (names qs)) (token (kind.Mark mark.OpenBrace) at ∷ (ys ++ rest)) ts rest (form.rolls-Block (names qs)) (sym (ap (λ u. u ++ rest) front)) o.span))

reorder_form : (s : Span) (qs : List Known) → LayerReads s (F.Reorder (names qs))
unfolding LayerReads form_at whole_at reorder_at
reorder_form s qs b role ts rest o = go o.spelt.0 o.spelt.1
  where
    go : is_whole role ≡ true → (Keyword key.Reorder ▸ Sign mark.OpenBrace ▸ Stmts qs ▸ Sign mark.CloseBrace) ts → form_at (stmt_at b) b role (ts ++ rest) ≡ Some (pair (stmt s (roll-Form (F.Reorder (names qs)))) rest)
    go w (us, ys, is, (at, isu), (vs, zs, is', (mid, isv), h)) =
        let front : ts ≡ token (kind.Key key.Reorder) at ∷ ys = is ∙ ap (λ l. l ++ ys) isu in
        let brace : ys ≡ token (kind.Mark mark.OpenBrace) mid ∷ zs = is' ∙ ap (λ l. l ++ zs) isv in
        ap (λ u. form_at (stmt_at b) b role (u ++ rest)) front
        ∙ if_yes (is_whole role) _ _ w
        (bind_is (mark_at mark.OpenBrace (ys ++ rest)) _ (mark_read mark.OpenBrace ys mid zs rest brace)
        (bind_is (stmts_at (stmt_at b) (zs ++ rest)) _ (block_reads b qs zs rest h o.placed o.within)
        (stmt_made s (F.Reorder (names qs)) (form.Reorder (names qs)) (token (kind.Key key.Reorder) at ∷ (ys ++ rest)) ts rest (form.rolls-Reorder (names qs)) (sym (ap (λ u. u ++ rest) front)) o.span)))

while_form : (s : Span) (c : Expr) (a : Stmt) → StmtReads a → LayerReads s (F.While c a)
unfolding LayerReads form_at whole_at while_at
while_form s c a known b role ts rest o = go o.spelt.0 o.spelt.1
  where
    go : is_whole role ≡ true → (Keyword key.While ▸ SpeltParens c ▸ SpeltStmt a AsBody) ts → form_at (stmt_at b) b role (ts ++ rest) ≡ Some (pair (stmt s (roll-Form (F.While c a))) rest)
    go w (us, ys, is, (at, isu), (vs, zs, is', hc, ha)) =
        let front : ts ≡ token (kind.Key key.While) at ∷ ys = is ∙ ap (λ l. l ++ ys) isu in
        let ps = both_true (expr_placed c) (stand_of a).placed o.placed in
        ap (λ u. form_at (stmt_at b) b role (u ++ rest)) front
        ∙ if_yes (is_whole role) _ _ w
        (bind_is (parens_at b (ys ++ rest)) _ (ap (parens_at b) (cut _ _ is' rest) ∙ parens_read b c vs (zs ++ rest) hc ps.0 (omega (arith, o.within)))
        (bind_is (stmt_at b AsBody (zs ++ rest)) _ (known.reads b AsBody zs rest ha ps.1 (omega (arith, o.within)) (body_after o.after))
        (stmt_made s (F.While c a) (form.While c a) (token (kind.Key key.While) at ∷ (ys ++ rest)) ts rest (form.rolls-While c a) (sym (ap (λ u. u ++ rest) front)) o.span)))

repeat_form : (s : Span) (c : Expr) (a : Stmt) → StmtReads a → LayerReads s (F.Repeat c a)
unfolding LayerReads form_at whole_at repeat_at
repeat_form s c a known b role ts rest o = go o.spelt.0 o.spelt.1
  where
    go : is_whole role ≡ true → (Keyword key.Repeat ▸ SpeltParens c ▸ SpeltStmt a AsBody) ts → form_at (stmt_at b) b role (ts ++ rest) ≡ Some (pair (stmt s (roll-Form (F.Repeat c a))) rest)
    go w (us, ys, is, (at, isu), (vs, zs, is', hc, ha)) =
        let front : ts ≡ token (kind.Key key.Repeat) at ∷ ys = is ∙ ap (λ l. l ++ ys) isu in
        let ps = both_true (expr_placed c) (stand_of a).placed o.placed in
        ap (λ u. form_at (stmt_at b) b role (u ++ rest)) front
        ∙ if_yes (is_whole role) _ _ w
        (bind_is (parens_at b (ys ++ rest)) _ (ap (parens_at b) (cut _ _ is' rest) ∙ parens_read b c vs (zs ++ rest) hc ps.0 (omega (arith, o.within)))
        (bind_is (stmt_at b AsBody (zs ++ rest)) _ (known.reads b AsBody zs rest ha ps.1 (omega (arith, o.within)) (body_after o.after))
        (stmt_made s (F.Repeat c a) (form.Repeat c a) (token (kind.Key key.Repeat) at ∷ (ys ++ rest)) ts rest (form.rolls-Repeat c a) (sym (ap (λ u. u ++ rest) front)) o.span)))

minrepeat_form : (s : Span) (a : Stmt) → StmtReads a → LayerReads s (F.MinRepeat a)
unfolding LayerReads form_at whole_at minrepeat_at
minrepeat_form s a known b role ts rest o = go o.spelt.0 o.spelt.1
  where
    go : is_whole role ≡ true → (Keyword key.Minrepeat ▸ SpeltStmt a AsBody) ts → form_at (stmt_at b) b role (ts ++ rest) ≡ Some (pair (stmt s (roll-Form (F.MinRepeat a))) rest)
    go w (us, ys, is, (at, isu), ha) =
        let front : ts ≡ token (kind.Key key.Minrepeat) at ∷ ys = is ∙ ap (λ l. l ++ ys) isu in
        ap (λ u. form_at (stmt_at b) b role (u ++ rest)) front
        ∙ if_yes (is_whole role) _ _ w
        (bind_is (stmt_at b AsBody (ys ++ rest)) _ (known.reads b AsBody ys rest ha o.placed o.within (body_after o.after))
        (stmt_made s (F.MinRepeat a) (form.MinRepeat a) (token (kind.Key key.Minrepeat) at ∷ (ys ++ rest)) ts rest (form.rolls-MinRepeat a) (sym (ap (λ u. u ++ rest) front)) o.span))

-- an `if` without `else`
if_form : (s : Span) (c : Expr) (a : Stmt) → StmtReads a → LayerReads s (F.If c a None)
unfolding LayerReads form_at whole_at if_at behind_if
if_form s c a known b role ts rest o = go o.spelt.0 o.spelt.1
  where
    go : is_whole role ≡ true → (Keyword key.If ▸ SpeltParens c ▸ SpeltStmt a AsBody ▸ Nothing) ts → form_at (stmt_at b) b role (ts ++ rest) ≡ Some (pair (stmt s (roll-Form (F.If c a None))) rest)
    go w (us, ys, is, (at, isu), (vs, zs, is', hc, (xs, ws, is'', ha, nothing))) =
        let front : ts ≡ token (kind.Key key.If) at ∷ ys = is ∙ ap (λ l. l ++ ys) isu in
        let body : zs ≡ xs = is'' ∙ ap (λ l. xs ++ l) nothing ∙ append-nil xs in
        let ps = both_true (expr_placed c) (stand_of a).placed o.placed in
        let none : key_ahead key.Else rest ≡ false = o.after.no_else refl in
        let after : After AsBody (stand_of a).takes_else rest = record { no_else = λ _. none; closed = λ e. absurd (cc) } in
        ap (λ u. form_at (stmt_at b) b role (u ++ rest)) front
        ∙ if_yes (is_whole role) _ _ w
        (bind_is (parens_at b (ys ++ rest)) _ (ap (parens_at b) (cut _ _ is' rest) ∙ parens_read b c vs (zs ++ rest) hc ps.0 (omega (arith, o.within)))
        (bind_is (stmt_at b AsBody (zs ++ rest)) _ (ap (λ l. stmt_at b AsBody (l ++ rest)) body ∙ known.reads b AsBody xs rest ha ps.1 (omega (arith, o.within)) after)
        (if_no (key_ahead key.Else rest) _ _ none
        (stmt_made s (F.If c a None) (form.If c a None) (token (kind.Key key.If) at ∷ (ys ++ rest)) ts rest (form.rolls-If c a None) (sym (ap (λ u. u ++ rest) front)) o.span))))

-- an `if` with its `else`
else_form : (s : Span) (c : Expr) (a d : Stmt) → StmtReads a → StmtReads d → LayerReads s (F.If c a (Some d))
unfolding LayerReads form_at whole_at if_at behind_if
else_form s c a d ka kd b role ts rest o = go o.spelt.0 o.spelt.1
  where
    not_true : (t : Bool) → not t ≡ true → t ≡ true → ⊥
    not_true true h e = let bad : false ≡ true = h in absurd (cc)
    not_true false h e = let bad : false ≡ true = e in absurd (cc)

    go : is_whole role ≡ true → (Keyword key.If ▸ SpeltParens c ▸ SpeltStmt a AsBody ▸ Keyword key.Else ▸ SpeltStmt d AsBody) ts → form_at (stmt_at b) b role (ts ++ rest) ≡ Some (pair (stmt s (roll-Form (F.If c a (Some d)))) rest)
    go w (us, ys, is, (at, isu), (vs, zs, is', hc, (xs, ws, is'', ha, (es, ds, is3, (mid, ise), hd)))) =
        let front : ts ≡ token (kind.Key key.If) at ∷ ys = is ∙ ap (λ l. l ++ ys) isu in
        let other : ws ≡ token (kind.Key key.Else) mid ∷ ds = is3 ∙ ap (λ l. l ++ ds) ise in
        let all = both_true ((expr_placed c && (stand_of a).placed) && not (stand_of a).takes_else) (stand_of d).placed o.placed in
        let two = both_true (expr_placed c && (stand_of a).placed) (not (stand_of a).takes_else) all.0 in
        let ps = both_true (expr_placed c) (stand_of a).placed two.0 in
        let after : After AsBody (stand_of a).takes_else (ws ++ rest) = record { no_else = λ e. absurd (not_true (stand_of a).takes_else two.1 e); closed = λ e. absurd (cc) } in
        ap (λ u. form_at (stmt_at b) b role (u ++ rest)) front
        ∙ if_yes (is_whole role) _ _ w
        (bind_is (parens_at b (ys ++ rest)) _ (ap (parens_at b) (cut _ _ is' rest) ∙ parens_read b c vs (zs ++ rest) hc ps.0 (omega (arith, o.within)))
        (bind_is (stmt_at b AsBody (zs ++ rest)) _ (ap (stmt_at b AsBody) (cut _ _ is'' rest) ∙ ka.reads b AsBody xs (ws ++ rest) ha ps.1 (omega (arith, o.within)) after)
        (if_yes (key_ahead key.Else (ws ++ rest)) _ _ (key_seen key.Else ws mid ds rest other)
        (bind_is (key_at key.Else (ws ++ rest)) _ (key_read key.Else ws mid ds rest other)
        (bind_is (stmt_at b AsBody (ds ++ rest)) _ (kd.reads b AsBody ds rest hd all.1 (omega (arith, o.within)) (body_after o.after))
        (stmt_made s (F.If c a (Some d)) (form.If c a (Some d)) (token (kind.Key key.If) at ∷ (ys ++ rest)) ts rest (form.rolls-If c a (Some d)) (sym (ap (λ u. u ++ rest) front)) o.span))))))

-- behind a `for`'s own statement
own_after : (role : Role) (takes : Bool) (m : Mark) (ts : List Token) (at : Span) (ys rest : List Token) → ts ≡ token (kind.Mark m) at ∷ ys → is_closing m ≡ true → After role takes (ts ++ rest)
unfolding key_ahead
own_after role takes m ts at ys rest is good = record {
  no_else = λ _. ap (λ l. key_ahead key.Else (l ++ rest)) is;
  closed = λ _. record { what = m; at = at; behind = ys ++ rest; is = ap (λ l. l ++ rest) is; good = good };
}

for_form : (s : Span) (first : Stmt) (c : Expr) (next body : Stmt) → StmtReads first → StmtReads next → StmtReads body → LayerReads s (F.For first c next body)
unfolding LayerReads form_at whole_at for_at between_semicolons for_body_at
for_form s first c next body kf kn kb b role ts rest o = go o.spelt.0 o.spelt.1
  where
    go : is_whole role ≡ true → (Keyword key.For ▸ Sign mark.OpenParen ▸ SpeltStmt first AsFirst ▸ Sign mark.Semicolon ▸ SpeltExpr c ▸ Sign mark.Semicolon ▸ SpeltStmt next AsNext ▸ Sign mark.CloseParen ▸ SpeltStmt body AsBody) ts → form_at (stmt_at b) b role (ts ++ rest) ≡ Some (pair (stmt s (roll-Form (F.For first c next body))) rest)
    go w (us, ys, is, (at, isu), (u1, y1, is1, (at1, isu1), (u2, y2, is2, hf, (u3, y3, is3, (at3, isu3), (u4, y4, is4, hc, (u5, y5, is5, (at5, isu5), (u6, y6, is6, hn, (u7, y7, is7, (at7, isu7), hb)))))))) =
        let front : ts ≡ token (kind.Key key.For) at ∷ ys = is ∙ ap (λ l. l ++ ys) isu in
        let open_ : ys ≡ token (kind.Mark mark.OpenParen) at1 ∷ y1 = is1 ∙ ap (λ l. l ++ y1) isu1 in
        let semicolon : y2 ≡ token (kind.Mark mark.Semicolon) at3 ∷ y3 = is3 ∙ ap (λ l. l ++ y3) isu3 in
        let again : y4 ≡ token (kind.Mark mark.Semicolon) at5 ∷ y5 = is5 ∙ ap (λ l. l ++ y5) isu5 in
        let close : y6 ≡ token (kind.Mark mark.CloseParen) at7 ∷ y7 = is7 ∙ ap (λ l. l ++ y7) isu7 in
        let all = both_true (((stand_of first).placed && expr_placed c) && (stand_of next).placed) (stand_of body).placed o.placed in
        let three = both_true ((stand_of first).placed && expr_placed c) (stand_of next).placed all.0 in
        let two = both_true (stand_of first).placed (expr_placed c) three.0 in
        let test : between_semicolons b (y2 ++ rest) ≡ Some (pair c (y5 ++ rest)) =
        bind_is (mark_at mark.Semicolon (y2 ++ rest)) _ (mark_read mark.Semicolon y2 at3 y3 rest semicolon)
        (bind_is (value_at b (y3 ++ rest)) _ (ap (value_at b) (cut _ _ is4 rest) ∙ value_reads b c u4 (y4 ++ rest) hc two.1 (omega (arith, o.within)) (stops_at mark.Semicolon y4 at5 y5 rest again refl))
        (bind_is (mark_at mark.Semicolon (y4 ++ rest)) _ (mark_read mark.Semicolon y4 at5 y5 rest again) refl)) in
        ap (λ u. form_at (stmt_at b) b role (u ++ rest)) front
        ∙ if_yes (is_whole role) _ _ w
        (bind_is (mark_at mark.OpenParen (ys ++ rest)) _ (mark_read mark.OpenParen ys at1 y1 rest open_)
        (bind_is (stmt_at b AsFirst (y1 ++ rest)) _ (ap (stmt_at b AsFirst) (cut _ _ is2 rest) ∙ kf.reads b AsFirst u2 (y2 ++ rest) hf two.0 (omega (arith, o.within)) (own_after AsFirst (stand_of first).takes_else mark.Semicolon y2 at3 y3 rest semicolon refl))
        (bind_is (between_semicolons b (y2 ++ rest)) _ test
        (bind_is (stmt_at b AsNext (y5 ++ rest)) _ (ap (stmt_at b AsNext) (cut _ _ is6 rest) ∙ kn.reads b AsNext u6 (y6 ++ rest) hn three.1 (omega (arith, o.within)) (own_after AsNext (stand_of next).takes_else mark.CloseParen y6 at7 y7 rest close refl))
        (bind_is (mark_at mark.CloseParen (y6 ++ rest)) _ (mark_read mark.CloseParen y6 at7 y7 rest close)
        (bind_is (stmt_at b AsBody (y7 ++ rest)) _ (kb.reads b AsBody y7 rest hb all.1 (omega (arith, o.within)) (body_after o.after))
        (stmt_made s (F.For first c next body) (form.For first c next body) (token (kind.Key key.For) at ∷ (ys ++ rest)) ts rest (form.rolls-For first c next body) (sym (ap (λ u. u ++ rest) front)) o.span)))))))

-- All statements

abbrev FormReads : Form → Type 0
FormReads f = (s : Span) → StmtReads (stmt s f)

-- no other step is spelt
step_never : (s : Span) (k : StepKind) (target : Expr) (by : Option Expr) → ((ts : List Token) → SpeltStep k target by ts → ⊥) → LayerReads s (F.Step k target by)
unfolding LayerReads
step_never s k target by none b role ts rest o = absurd (none o.spelt.1.0 o.spelt.1.3)

step_form : (s : Span) (k : StepKind) (target : Expr) (by : Option Expr) → LayerReads s (F.Step k target by)
unfolding behind_target form_at
step_form s step.PostInc target None = post_reads s step.PostInc mark.Increment target refl refl (λ role b start at us. refl)
step_form s step.PostDec target None = post_reads s step.PostDec mark.Decrement target refl refl (λ role b start at us. refl)
step_form s step.PreInc target None = pre_reads s step.PreInc mark.Increment target refl (λ role b at us. refl)
step_form s step.PreDec target None = pre_reads s step.PreDec mark.Decrement target refl (λ role b at us. refl)
step_form s step.Add target (Some v) = add_reads s step.Add mark.AddAssign target v refl refl (λ role b start at us. refl)
step_form s step.Sub target (Some v) = add_reads s step.Sub mark.SubAssign target v refl refl (λ role b start at us. refl)
step_form s step.Add target None = step_never s step.Add target None (λ ts h. h)
step_form s step.Sub target None = step_never s step.Sub target None (λ ts h. h)
step_form s step.PostInc target (Some v) = step_never s step.PostInc target (Some v) (λ ts h. h)
step_form s step.PostDec target (Some v) = step_never s step.PostDec target (Some v) (λ ts h. h)
step_form s step.PreInc target (Some v) = step_never s step.PreInc target (Some v) (λ ts h. h)
step_form s step.PreDec target (Some v) = step_never s step.PreDec target (Some v) (λ ts h. h)

layer : (y : StmtLayer FormReads StmtReads) → FormReads (roll-Form (stmt_parts FormReads StmtReads y))
layer (F.Block ss) s = node_reads s (F.Block (names ss)) (block_form s ss)
layer F.Empty s = node_reads s F.Empty (empty_reads s)
layer (F.Declare ty ds) s = node_reads s (F.Declare ty ds) (declaration_reads s ty ds)
layer (F.Assign target value) s = node_reads s (F.Assign target value) (assign_reads s target value)
layer (F.Call e) s = node_reads s (F.Call e) (call_reads s e)
layer (F.Step k target by) s = node_reads s (F.Step k target by) (step_form s k target by)
layer (F.If c a None) s = node_reads s (F.If c a.0 None) (if_form s c a.0 a.1)
layer (F.If c a (Some d)) s = node_reads s (F.If c a.0 (Some d.0)) (else_form s c a.0 d.0 a.1 d.1)
layer (F.While c a) s = node_reads s (F.While c a.0) (while_form s c a.0 a.1)
layer (F.For first c next body) s = node_reads s (F.For first.0 c next.0 body.0) (for_form s first.0 c next.0 body.0 first.1 next.1 body.1)
layer (F.Return None) s = node_reads s (F.Return None) (return_reads s)
layer (F.Return (Some e)) s = node_reads s (F.Return (Some e)) (return_value_reads s e)
layer (F.Assert e) s = node_reads s (F.Assert e) (assert_reads s e)
layer (F.Assume e) s = node_reads s (F.Assume e) (assume_reads s e)
layer (F.Minimize e) s = node_reads s (F.Minimize e) (minimize_reads s e)
layer (F.Repeat c a) s = node_reads s (F.Repeat c a.0) (repeat_form s c a.0 a.1)
layer (F.MinRepeat a) s = node_reads s (F.MinRepeat a.0) (minrepeat_form s a.0 a.1)
layer (F.Reorder ss) s = node_reads s (F.Reorder (names ss)) (reorder_form s ss)

-- what a statement is spelt by is read as that statement
pub stmt_reads : (s : Stmt) → StmtReads s
stmt_reads = stmt_law FormReads StmtReads layer (λ s h. h s.span)
