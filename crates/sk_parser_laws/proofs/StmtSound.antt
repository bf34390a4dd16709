-- What the readers of types and statements read is spelt so, stands as it may, and is at most as deep as the budget.
use Rattle.std.proofs.Common.{◌≡◌, ℕ, zero, suc, ◌<◌, ◌≤◌, Bool, true, false, not, ◌&&◌, List, [], ◌∷◌, length, map, Option, Some, None, refl, sym, ap, ◌∙◌, subst, arith, length-append}
use Rattle.std.specs.List.{list_all}
use Rattle.std.proofs.lemmas.Bool.{le-leb}
use Rattle.sk_base.specs.declared.span.Span.{Span}
use Rattle.sk_tree.specs.declared.token.Token.{Token}
use Rattle.sk_tree.specs.declared.token.Kind.{Kind}
use Rattle.sk_tree.specs.declared.token.Kind.TheVariants as kind
use Rattle.sk_tree.specs.declared.token.Mark.{Mark}
use Rattle.sk_tree.specs.declared.token.Mark.TheVariants as mark
use Rattle.sk_tree.specs.declared.token.Key.TheVariants as key
use Rattle.sk_tree.specs.declared.expr.Expr.{Expr}
use Rattle.sk_tree.specs.declared.stmt.Stmt.{Stmt}
use Rattle.sk_tree.specs.declared.stmt.Form.{Form}
use Rattle.sk_tree.specs.declared.stmt.Form.TheVariants as form
use Rattle.sk_tree.specs.declared.stmt.Form.TheOpen as F
use Rattle.sk_tree.specs.declared.stmt.Form.TheViews.{roll-Form}
use Rattle.sk_tree.specs.declared.stmt.Form.TheFolds.{map-Form, fold-Form, fold-roll-Form, fold-roll-Stmt}
use Rattle.sk_tree.specs.declared.stmt.Declared.{Declared}
use Rattle.sk_tree.specs.declared.stmt.StepKind.{StepKind}
use Rattle.sk_tree.specs.declared.stmt.StepKind.TheVariants as step
use Rattle.sk_tree.specs.declared.item.TyTree.{TyTree}
use Rattle.sk_tree.specs.Phrase.{Phrase, Sign, Keyword, ◌▸◌, Each, Between, Perhaps}
use Rattle.sk_tree.specs.Spelt.{Spans, SpeltExpr, SpeltTarget, SpeltBase, SpeltLength, SpeltTy, SpeltDeclared, SpeltStep, SpeltParens, SpeltStmt, Role, InBlock, AsBody, AsFirst, AsNext, is_whole, may_step, may_declare, is_target, is_call, are_some, Ending}
use Rattle.sk_tree.specs.Depth.{deepest, expr_depth, ty_depth, declared_depth, any_depth, form_depth, stmt_depth}
use Rattle.sk_tree.specs.Placed.{expr_placed, any_placed, ty_placed, declared_placed, Stand, form_stand, stand_of, all_stand}
use Rattle.sk_tree.proofs.Layers.{FormLayer, form_is, stmt_is}
use Rattle.sk_parser_laws.specs.Readers.{mark_ahead, mark_at, key_ahead, key_at, word_at, repeated, inside, span_between}
use Rattle.sk_parser_laws.specs.ExprReader.{ends_row, expr_at}
use Rattle.sk_parser_laws.specs.StringReader.{offers}
use Rattle.sk_parser_laws.specs.StmtReader.{value_at, base_at, base_kind, base_type_at, length_at, next_length, lengths_at, ty_at, init_at, declared_at, next_declared, names_at, end_at, only, stmt_of, declare_at, assign_at, turn_at, add_at, call_at, behind_kind, behind_target, simple_at, before_at, named_at, parens_at, return_value_at, return_at, assert_at, assume_at, minimize_at, ByRole, next_stmt, ends_block, stmts_at, block_at, reorder_at, behind_if, if_at, while_at, repeat_at, minrepeat_at, between_semicolons, for_body_at, for_at, whole_at, stmt_kind, form_at, stmt_at}
use Rattle.sk_parser_laws.proofs.Loops.{Every, every_none, every_some, every_bind, every_if, every_more, every_repeated}
use Rattle.sk_parser_laws.proofs.Seen.{token, Seen, Stands, seen_then, seen_given, seen_nothing, seen_as, seen_stands, stands_less, seen_no_more, taken_is, mark_stands, key_stands, word_stands, seen_between_one, seen_between_more, seen_each_push, seen_splice}
use Rattle.sk_parser_laws.proofs.PatternSound.{deepest_push, map_push, some_push}
use Rattle.sk_parser_laws.proofs.ExprSound.{both, both_true, all_push}
use Rattle.sk_parser_laws.proofs.Texts.{text_sound}
use Rattle.sk_parser_laws.proofs.StmtTakes.{every_or}

-- Statements that are built of one form

abbrev pub Layer : Type 0
Layer = F.Form-F Form Stmt

abbrev pub stmt : Span → Form → Stmt
stmt s f = record { span = s; form = f }

abbrev pub depth_layer : Layer → F.Form-F ℕ ℕ
depth_layer l = map-Form Form Stmt ℕ ℕ (fold-Form ℕ ℕ form_depth (λ s. suc s.form)) stmt_depth l

pub stmt_depth_is : (s : Span) (l : Layer) (f : Form) → roll-Form l ≡ f → stmt_depth (stmt s f) ≡ suc (form_depth (depth_layer l))
stmt_depth_is s l f rolls =
    ap (λ g. stmt_depth (stmt s g)) (sym rolls)
    ∙ fold-roll-Stmt ℕ ℕ form_depth (λ s. suc s.form) (record { span = s; form = roll-Form l })
    ∙ ap suc (fold-roll-Form ℕ ℕ form_depth (λ s. suc s.form) l)

abbrev pub stand_layer : Layer → F.Form-F Stand Stand
stand_layer l = map-Form Form Stmt Stand Stand (fold-Form Stand Stand form_stand (λ s. s.form)) stand_of l

pub stand_is : (s : Span) (l : Layer) (f : Form) → roll-Form l ≡ f → stand_of (stmt s f) ≡ form_stand (stand_layer l)
stand_is s l f rolls =
    ap (λ g. stand_of (stmt s g)) (sym rolls)
    ∙ fold-roll-Stmt Stand Stand form_stand (λ s. s.form) (record { span = s; form = roll-Form l })
    ∙ fold-roll-Form Stand Stand form_stand (λ s. s.form) l

pub spelt_is : (s : Span) (l : Layer) (f : Form) (role : Role) → roll-Form l ≡ f → SpeltStmt (stmt s f) role ≡ Spans s (FormLayer l role)
spelt_is s l f role rolls =
    ap (λ g. SpeltStmt (stmt s g) role) (sym rolls)
    ∙ ap (λ (P : Role → Phrase). P role) (stmt_is (stmt s (roll-Form l)))
    ∙ ap (λ (P : Role → Phrase). Spans s (P role)) (form_is l)

-- a statement in its role, from the start up to the rest; where it would take an `else`, none follows
pub record FoundStmt (b : ℕ) (role : Role) (start : List Token) (s : Stmt) (rest : List Token) : Type 0 where
  pub seen : Seen (SpeltStmt s role) start rest
  pub less : length rest < length start
  pub depth : stmt_depth s ≤ b
  pub placed : (stand_of s).placed ≡ true
  pub no_else : (stand_of s).takes_else ≡ true → key_ahead key.Else rest ≡ false

found_stmt : (b : ℕ) (role : Role) (start : List Token) (l : Layer) (f : Form) (rest : List Token) → roll-Form l ≡ f → Seen (FormLayer l role) start rest → length rest < length start → form_depth (depth_layer l) ≤ b → (form_stand (stand_layer l)).placed ≡ true → ((form_stand (stand_layer l)).takes_else ≡ true → key_ahead key.Else rest ≡ false) → Every (λ x. FoundStmt (suc b) role start x.0 x.1) (Some (stmt_of start f rest))
unfolding stmt_of
found_stmt b role start l f rest rolls seen less d p none =
    let s = span_between start rest in
    every_some (record {
      seen = record { front = seen.front; split = seen.split; spelt = subst (λ (P : Phrase). P seen.front) (sym (spelt_is s l f role rolls)) (seen.spelt, taken_is seen) };
      less = less;
      depth = omega (arith, stmt_depth_is s l f rolls, d);
      placed = ap (λ (q : Stand). q.placed) (stand_is s l f rolls) ∙ p;
      no_else = λ e. none (sym (ap (λ (q : Stand). q.takes_else) (stand_is s l f rolls)) ∙ e);
    })

never_else : (rest : List Token) → false ≡ true → key_ahead key.Else rest ≡ false
never_else rest e = absurd (cc)

-- Expressions in statements

pub record FoundValue (b : ℕ) (start : List Token) (e : Expr) (rest : List Token) : Type 0 where
  pub seen : Seen (SpeltExpr e) start rest
  pub less : length rest < length start
  pub depth : expr_depth e ≤ b
  pub placed : expr_placed e ≡ true

pub value_found : (b : ℕ) (ts : List Token) → Every (λ x. FoundValue b ts x.0 x.1) (value_at b ts)
unfolding value_at
value_found b ts =
    every_bind (expr_at (offers true) b 13 ts) _ ((text_sound b).sound 13 ts (omega arith))
    (λ e f. every_some (record { seen = f.of.seen; less = f.of.less; depth = omega (arith, f.of.depth, f.of.within); placed = f.of.placed }))

base_found : (b : ℕ) (ts : List Token) → Every (λ x. FoundValue b ts x.0 x.1) (base_at b ts)
unfolding base_at
base_found b ts =
    every_bind (expr_at (offers true) b 1 ts) _ ((text_sound b).sound 1 ts (omega arith))
    (λ e f. every_some (record { seen = f.of.seen; less = f.of.less; depth = omega (arith, f.of.depth, f.of.within); placed = f.of.placed }))

inside_is : (b : ℕ) → Every (λ c. b ≡ suc c) (inside b)
unfolding inside
inside_is zero = every_none
inside_is (suc c) = every_some refl

-- Types

base_kind_found : (k : Kind) (s : Span) (ts : List Token) → Every (λ x. Seen (SpeltBase x.0) (token k s ∷ ts) x.1 × (length x.1 < length (token k s ∷ ts))) (base_kind k ts)
base_kind_found (kind.Key key.Int) s ts = every_some (seen_stands (record { at = s; is = refl }), omega arith)
base_kind_found (kind.Key key.Bit) s ts = every_some (seen_stands (record { at = s; is = refl }), omega arith)
base_kind_found (kind.Word x) s ts = every_some (seen_stands (record { at = s; is = refl }), omega arith)
base_kind_found _ s ts = every_none

base_type_found : (ts : List Token) → Every (λ x. Seen (SpeltBase x.0) ts x.1 × (length x.1 < length ts)) (base_type_at ts)
unfolding base_type_at
base_type_found [] = every_none
base_type_found (t ∷ ts) = base_kind_found t.kind t.span ts

-- lengths so far, at most n of them
record FoundLengths (b n : ℕ) (start : List Token) (lengths : List Expr) (rest : List Token) : Type 0 where
  seen : Seen (Each SpeltLength lengths) start rest
  few : length lengths ≤ n
  depth : deepest (map expr_depth lengths) ≤ b
  placed : list_all expr_placed lengths ≡ true

next_length_found : (b n : ℕ) (start : List Token) (lengths : List Expr) (ts : List Token) → FoundLengths b n start lengths ts → Every (λ x. FoundLengths b (suc n) start x.0 x.1) (next_length b lengths ts)
unfolding next_length length_at
next_length_found b n start lengths ts f =
    every_if (mark_ahead mark.OpenBracket ts) _ _
    (λ _. every_bind (mark_at mark.OpenBracket ts) _ (mark_stands mark.OpenBracket ts)
    (λ opening at. every_bind (value_at b opening) _ (value_found b opening)
    (λ e g. every_bind (mark_at mark.CloseBracket e.1) _ (mark_stands mark.CloseBracket e.1)
    (λ closing end. every_some (record {
      seen = seen_each_push SpeltLength lengths e.0 f.seen (seen_then (seen_stands at) (seen_then g.seen (seen_stands end)));
      few = omega (arith, f.few, length-append lengths (e.0 ∷ []));
      depth = omega (arith, f.depth, g.depth, ap deepest (map_push expr_depth lengths e.0), deepest_push (map expr_depth lengths) (expr_depth e.0));
      placed = all_push expr_placed lengths e.0 f.placed g.placed;
    })))))
    (λ _. every_some (record { seen = f.seen; few = omega (arith, f.few); depth = f.depth; placed = f.placed }))

pub record FoundTy (b : ℕ) (start : List Token) (ty : TyTree) (rest : List Token) : Type 0 where
  pub seen : Seen (SpeltTy ty) start rest
  pub less : length rest < length start
  pub depth : ty_depth ty ≤ b
  pub placed : ty_placed ty ≡ true

lengths_found : (b : ℕ) (ts : List Token) → Every (λ x. FoundLengths b 2 ts x.0 x.1) (lengths_at b ts)
unfolding lengths_at
lengths_found b ts =
    every_bind (next_length b [] ts) _ (next_length_found b 0 ts [] ts (record { seen = seen_nothing; few = omega arith; depth = omega arith; placed = refl }))
    (λ one f. next_length_found b 1 ts one.0 one.1 f)

pub ty_found : (b : ℕ) (ts : List Token) → Every (λ x. FoundTy b ts x.0 x.1) (ty_at b ts)
unfolding ty_at
ty_found b ts =
    every_bind (inside b) _ (inside_is b)
    (λ c is. every_bind (base_type_at ts) _ (base_type_found ts)
    (λ base f. every_bind (lengths_at c base.1) _ (lengths_found c base.1)
    (λ lengths g. every_some (record {
      seen = seen_given (le-leb (length lengths.0) 2 g.few) (seen_then f.0 g.seen);
      less = omega (arith, f.1, seen_no_more g.seen);
      depth = omega (arith, is, g.depth);
      placed = g.placed;
    }))))

-- Declarations

record FoundInit (b : ℕ) (start : List Token) (value : Option Expr) (rest : List Token) : Type 0 where
  seen : Seen (Perhaps (λ e. Sign mark.Assign ▸ SpeltExpr e) value) start rest
  depth : any_depth expr_depth value ≤ b
  placed : any_placed value ≡ true

init_found : (b : ℕ) (ts : List Token) → Every (λ x. FoundInit b ts x.0 x.1) (init_at b ts)
unfolding init_at
init_found b ts =
    every_if (mark_ahead mark.Assign ts) _ _
    (λ _. every_bind (mark_at mark.Assign ts) _ (mark_stands mark.Assign ts)
    (λ gets at. every_bind (value_at b gets) _ (value_found b gets)
    (λ e f. every_some (record { seen = seen_then (seen_stands at) f.seen; depth = f.depth; placed = f.placed }))))
    (λ _. every_some (record { seen = seen_nothing; depth = omega arith; placed = refl }))

record FoundDeclared (b : ℕ) (start : List Token) (d : Declared) (rest : List Token) : Type 0 where
  seen : Seen (SpeltDeclared d) start rest
  less : length rest < length start
  depth : declared_depth d ≤ b
  placed : declared_placed d ≡ true

declared_found : (b : ℕ) (ts : List Token) → Every (λ x. FoundDeclared b ts x.0 x.1) (declared_at b ts)
unfolding declared_at
declared_found b ts =
    every_bind (inside b) _ (inside_is b)
    (λ c is. every_bind (word_at ts) _ (word_stands ts)
    (λ name w. every_bind (init_at c name.1) _ (init_found c name.1)
    (λ value f. every_some (record { seen = seen_then (seen_stands w) f.seen; less = omega (arith, stands_less w, seen_no_more f.seen); depth = omega (arith, is, f.depth); placed = f.placed }))))

-- names so far
record FoundNames (b : ℕ) (start : List Token) (names : List Declared) (rest : List Token) : Type 0 where
  seen : Seen (Between (Sign mark.Comma) SpeltDeclared names) start rest
  some : are_some names ≡ true
  less : length rest < length start
  depth : deepest (map declared_depth names) ≤ b
  placed : list_all declared_placed names ≡ true

next_declared_found : (b : ℕ) (start : List Token) (names : List Declared) (ts : List Token) → FoundNames b start names ts → Every (λ x. FoundNames b start x.0 x.1) (next_declared b names ts)
unfolding next_declared
next_declared_found b start names ts f =
    every_bind (mark_at mark.Comma ts) _ (mark_stands mark.Comma ts)
    (λ comma at. every_bind (declared_at b comma) _ (declared_found b comma)
    (λ d g. every_some (record {
      seen = seen_between_more (Sign mark.Comma) SpeltDeclared names d.0 f.some f.seen (seen_then (seen_stands at) g.seen);
      some = some_push names d.0;
      less = omega (arith, f.less, stands_less at, g.less);
      depth = omega (arith, f.depth, g.depth, ap deepest (map_push declared_depth names d.0), deepest_push (map declared_depth names) (declared_depth d.0));
      placed = all_push declared_placed names d.0 f.placed g.placed;
    })))

names_found : (b : ℕ) (ts : List Token) → Every (λ x. FoundNames b ts x.0 x.1) (names_at b ts)
unfolding names_at
names_found b ts =
    every_bind (declared_at b ts) _ (declared_found b ts)
    (λ d f. every_more (every_repeated ends_row (next_declared b) (FoundNames b ts) (λ names rest i _. next_declared_found b ts names rest i) (d.0 ∷ []) d.1
    (record { seen = seen_between_one (Sign mark.Comma) SpeltDeclared d.0 f.seen; some = refl; less = f.less; depth = omega (arith, f.depth); placed = both f.placed refl })) (λ x p. p.0))

end_found : (role : Role) (ts : List Token) → Every (λ rest. Seen (Ending role) ts rest) (end_at role ts)
unfolding end_at
end_found InBlock ts = every_more (mark_stands mark.Semicolon ts) (λ rest at. seen_stands at)
end_found AsBody ts = every_more (mark_stands mark.Semicolon ts) (λ rest at. seen_stands at)
end_found AsFirst ts = every_some seen_nothing
end_found AsNext ts = every_some seen_nothing

-- where it is allowed, that is known
every_given : {A : Type 0} {Q : A → Type 0} (b : Bool) (o : Option A) → (b ≡ true → Every Q o) → Every Q (only b o)
every_given b o q = every_if b o None q (λ _. every_none)

declare_found : (role : Role) (b : ℕ) (ts : List Token) → Every (λ x. FoundStmt (suc b) role ts x.0 x.1) (declare_at role b ts)
unfolding declare_at
declare_found role b ts =
    every_bind (ty_at b ts) _ (ty_found b ts)
    (λ ty f. every_bind (names_at b ty.1) _ (names_found b ty.1)
    (λ names g. every_bind {Q = λ (rest : List Token). Seen (Ending role) names.1 rest × (may_declare role names.0 ≡ true)} (only (may_declare role names.0) (end_at role names.1)) _
    (every_given (may_declare role names.0) (end_at role names.1) (λ e. every_more (end_found role names.1) (λ rest h. (h, e))))
    (λ rest h. found_stmt b role ts (F.Declare ty.0 names.0) (form.Declare ty.0 names.0) rest (form.rolls-Declare ty.0 names.0)
    (seen_given h.1 (seen_then f.seen (seen_then g.seen h.0)))
    (omega (arith, f.less, g.less, seen_no_more h.0)) (omega (arith, f.depth, g.depth)) (both f.placed g.placed) (never_else _))))

-- Assignments, steps and calls

abbrev FoundRest : Role → ℕ → List Token → Stmt × List Token → Type 0
FoundRest role b start x = FoundStmt (suc b) role start x.0 x.1

-- what stands before the tokens that are read: a target or a call
abbrev Before : ℕ → List Token → Expr → List Token → Type 0
Before b start e ts = FoundValue b start e ts

assign_found : (role : Role) (b : ℕ) (start : List Token) (e : Expr) (ts after : List Token) → Before b start e ts → Stands (kind.Mark mark.Assign) ts after → Every (FoundRest role b start) (assign_at role b start e after)
unfolding assign_at
assign_found role b start e ts after f at =
    every_given (is_target e) _
    (λ target. every_bind (value_at b after) _ (value_found b after)
    (λ v g. every_bind (end_at role v.1) _ (end_found role v.1)
    (λ rest h. found_stmt b role start (F.Assign e v.0) (form.Assign e v.0) rest (form.rolls-Assign e v.0)
    (seen_then (seen_given target f.seen) (seen_then (seen_stands at) (seen_then g.seen h)))
    (omega (arith, f.less, stands_less at, g.less, seen_no_more h)) (omega (arith, f.depth, g.depth)) (both f.placed g.placed) (never_else _))))

turn_found : (role : Role) (b : ℕ) (k : StepKind) (m : Mark) (start : List Token) (e : Expr) (ts after : List Token) → SpeltStep k e None ≡ (SpeltTarget e ▸ Sign m) → Before b start e ts → Stands (kind.Mark m) ts after → Every (FoundRest role b start) (turn_at role k start e after)
unfolding turn_at
turn_found role b k m start e ts after is f at =
    every_given (may_step role && is_target e) _
    (λ allowed.
    let parts = both_true (may_step role) (is_target e) allowed in
    every_bind (end_at role after) _ (end_found role after)
    (λ rest h. found_stmt b role start (F.Step k e None) (form.Step k e None) rest (form.rolls-Step k e None)
    (seen_given parts.0 (seen_then (seen_as (sym is) (seen_then (seen_given parts.1 f.seen) (seen_stands at))) h))
    (omega (arith, f.less, stands_less at, seen_no_more h)) (omega (arith, f.depth)) (both f.placed refl) (never_else _)))

add_found : (role : Role) (b : ℕ) (k : StepKind) (m : Mark) (start : List Token) (e : Expr) (ts after : List Token) → ((v : Expr) → SpeltStep k e (Some v) ≡ (SpeltTarget e ▸ Sign m ▸ SpeltExpr v)) → Before b start e ts → Stands (kind.Mark m) ts after → Every (FoundRest role b start) (add_at role b k start e after)
unfolding add_at
add_found role b k m start e ts after is f at =
    every_given (may_step role && is_target e) _
    (λ allowed.
    let parts = both_true (may_step role) (is_target e) allowed in
    every_bind (value_at b after) _ (value_found b after)
    (λ v g. every_bind (end_at role v.1) _ (end_found role v.1)
    (λ rest h. found_stmt b role start (F.Step k e (Some v.0)) (form.Step k e (Some v.0)) rest (form.rolls-Step k e (Some v.0))
    (seen_given parts.0 (seen_then (seen_as (sym (is v.0)) (seen_then (seen_given parts.1 f.seen) (seen_then (seen_stands at) g.seen))) h))
    (omega (arith, f.less, stands_less at, g.less, seen_no_more h)) (omega (arith, f.depth, g.depth)) (both f.placed g.placed) (never_else _))))

call_found : (role : Role) (b : ℕ) (start : List Token) (e : Expr) (ts after : List Token) → Before b start e ts → Stands (kind.Mark mark.Semicolon) ts after → Every (FoundRest role b start) (call_at role start e after)
unfolding call_at
call_found role b start e ts after f at =
    every_given (is_whole role && is_call e) _
    (λ allowed.
    let parts = both_true (is_whole role) (is_call e) allowed in
    found_stmt b role start (F.Call e) (form.Call e) after (form.rolls-Call e)
    (seen_given parts.0 (seen_given parts.1 (seen_then f.seen (seen_stands at))))
    (omega (arith, f.less, stands_less at)) f.depth f.placed (never_else _))

behind_kind_found : (role : Role) (b : ℕ) (start : List Token) (e : Expr) (k : Kind) (s : Span) (ts : List Token) → Before b start e (token k s ∷ ts) → Every (FoundRest role b start) (behind_kind role b start e k ts)
behind_kind_found role b start e (kind.Mark mark.Assign) s ts f = assign_found role b start e (token (kind.Mark mark.Assign) s ∷ ts) ts f (record { at = s; is = refl })
behind_kind_found role b start e (kind.Mark mark.Increment) s ts f = turn_found role b step.PostInc mark.Increment start e (token (kind.Mark mark.Increment) s ∷ ts) ts refl f (record { at = s; is = refl })
behind_kind_found role b start e (kind.Mark mark.Decrement) s ts f = turn_found role b step.PostDec mark.Decrement start e (token (kind.Mark mark.Decrement) s ∷ ts) ts refl f (record { at = s; is = refl })
behind_kind_found role b start e (kind.Mark mark.AddAssign) s ts f = add_found role b step.Add mark.AddAssign start e (token (kind.Mark mark.AddAssign) s ∷ ts) ts (λ v. refl) f (record { at = s; is = refl })
behind_kind_found role b start e (kind.Mark mark.SubAssign) s ts f = add_found role b step.Sub mark.SubAssign start e (token (kind.Mark mark.SubAssign) s ∷ ts) ts (λ v. refl) f (record { at = s; is = refl })
behind_kind_found role b start e (kind.Mark mark.Semicolon) s ts f = call_found role b start e (token (kind.Mark mark.Semicolon) s ∷ ts) ts f (record { at = s; is = refl })
behind_kind_found role b start e _ s ts f = every_none

simple_found : (role : Role) (b : ℕ) (ts : List Token) → Every (FoundRest role b ts) (simple_at role b ts)
unfolding simple_at behind_target
simple_found role b ts = every_bind (base_at b ts) _ (base_found b ts) (λ e f. go e.0 e.1 f)
  where
    go : (e : Expr) (rest : List Token) → FoundValue b ts e rest → Every (FoundRest role b ts) (behind_target role b ts e rest)
    go e [] f = every_none
    go e (t ∷ rest) f = behind_kind_found role b ts e t.kind t.span rest f

before_found : (role : Role) (b : ℕ) (k : StepKind) (m : Mark) (start ts : List Token) → ((e : Expr) → SpeltStep k e None ≡ (Sign m ▸ SpeltTarget e)) → Stands (kind.Mark m) start ts → Every (FoundRest role b start) (before_at role b k start ts)
unfolding before_at
before_found role b k m start ts is at =
    every_bind (base_at b ts) _ (base_found b ts)
    (λ e f. every_bind {Q = λ (rest : List Token). Seen (Ending role) e.1 rest × ((may_step role && is_target e.0) ≡ true)} (only (may_step role && is_target e.0) (end_at role e.1)) _
    (every_given (may_step role && is_target e.0) (end_at role e.1) (λ allowed. every_more (end_found role e.1) (λ rest h. (h, allowed))))
    (λ rest h.
    let parts = both_true (may_step role) (is_target e.0) h.1 in
    found_stmt b role start (F.Step k e.0 None) (form.Step k e.0 None) rest (form.rolls-Step k e.0 None)
    (seen_given parts.0 (seen_then (seen_as (sym (is e.0)) (seen_then (seen_stands at) (seen_given parts.1 f.seen))) h.0))
    (omega (arith, stands_less at, f.less, seen_no_more h.0)) (omega (arith, f.depth)) (both f.placed refl) (never_else _)))

named_found : (role : Role) (b : ℕ) (ts : List Token) → Every (FoundRest role b ts) (named_at role b ts)
unfolding named_at
named_found role b ts = every_or (declare_at role b ts) (simple_at role b ts) (declare_found role b ts) (simple_found role b ts)

-- Statements with expressions alone

parens_found : (b : ℕ) (ts : List Token) → Every (λ x. (Seen (SpeltParens x.0) ts x.1) × (length x.1 < length ts) × (expr_depth x.0 ≤ b) × (expr_placed x.0 ≡ true)) (parens_at b ts)
unfolding parens_at
parens_found b ts =
    every_bind (mark_at mark.OpenParen ts) _ (mark_stands mark.OpenParen ts)
    (λ opening at. every_bind (value_at b opening) _ (value_found b opening)
    (λ e f. every_bind (mark_at mark.CloseParen e.1) _ (mark_stands mark.CloseParen e.1)
    (λ closing end. every_some (seen_then (seen_stands at) (seen_then f.seen (seen_stands end)), omega (arith, stands_less at, f.less, stands_less end), f.depth, f.placed))))

module _ (b : ℕ) (role : Role) (whole : is_whole role ≡ true) (start ts : List Token) where
  return_found : Stands (kind.Key key.Return) start ts → Every (FoundRest role b start) (return_at b start ts)
  unfolding return_at return_value_at
  return_found at =
      every_if (mark_ahead mark.Semicolon ts) _ _
      (λ _. every_bind (mark_at mark.Semicolon ts) _ (mark_stands mark.Semicolon ts)
      (λ rest end. found_stmt b role start (F.Return None) (form.Return None) rest (form.rolls-Return None)
      (seen_given whole (seen_then (seen_stands at) (seen_then seen_nothing (seen_stands end))))
      (omega (arith, stands_less at, stands_less end)) (omega arith) refl (never_else _)))
      (λ _. every_bind (value_at b ts) _ (value_found b ts)
      (λ e f. every_bind (mark_at mark.Semicolon e.1) _ (mark_stands mark.Semicolon e.1)
      (λ rest end. found_stmt b role start (F.Return (Some e.0)) (form.Return (Some e.0)) rest (form.rolls-Return (Some e.0))
      (seen_given whole (seen_then (seen_stands at) (seen_then f.seen (seen_stands end))))
      (omega (arith, stands_less at, f.less, stands_less end)) f.depth f.placed (never_else _))))

  assert_found : Stands (kind.Key key.Assert) start ts → Every (FoundRest role b start) (assert_at b start ts)
  unfolding assert_at
  assert_found at =
      every_bind (value_at b ts) _ (value_found b ts)
      (λ e f. every_bind (mark_at mark.Semicolon e.1) _ (mark_stands mark.Semicolon e.1)
      (λ rest end. found_stmt b role start (F.Assert e.0) (form.Assert e.0) rest (form.rolls-Assert e.0)
      (seen_given whole (seen_then (seen_stands at) (seen_then f.seen (seen_stands end))))
      (omega (arith, stands_less at, f.less, stands_less end)) f.depth f.placed (never_else _)))

  assume_found : Stands (kind.Key key.Assume) start ts → Every (FoundRest role b start) (assume_at b start ts)
  unfolding assume_at
  assume_found at =
      every_bind (value_at b ts) _ (value_found b ts)
      (λ e f. every_bind (mark_at mark.Semicolon e.1) _ (mark_stands mark.Semicolon e.1)
      (λ rest end. found_stmt b role start (F.Assume e.0) (form.Assume e.0) rest (form.rolls-Assume e.0)
      (seen_given whole (seen_then (seen_stands at) (seen_then f.seen (seen_stands end))))
      (omega (arith, stands_less at, f.less, stands_less end)) f.depth f.placed (never_else _)))

  minimize_found : Stands (kind.Key key.Minimize) start ts → Every (FoundRest role b start) (minimize_at b start ts)
  unfolding minimize_at
  minimize_found at =
      every_bind (parens_at b ts) _ (parens_found b ts)
      (λ e f. every_bind (mark_at mark.Semicolon e.1) _ (mark_stands mark.Semicolon e.1)
      (λ rest end. found_stmt b role start (F.Minimize e.0) (form.Minimize e.0) rest (form.rolls-Minimize e.0)
      (seen_given whole (seen_then (seen_stands at) (seen_then f.0 (seen_stands end))))
      (omega (arith, stands_less at, f.1, stands_less end)) f.2 f.3 (never_else _)))

  empty_found : Stands (kind.Mark mark.Semicolon) start ts → Every (FoundRest role b start) (Some (stmt_of start form.Empty ts))
  empty_found at = found_stmt b role start F.Empty form.Empty ts form.rolls-Empty (seen_given whole (seen_stands at)) (stands_less at) (omega arith) refl (never_else _)

-- Statements with statements inside

pub record SoundByRole (b : ℕ) (inner : ByRole) : Type 0 where
  pub sound : (role : Role) (ts : List Token) → Every (λ x. FoundStmt b role ts x.0 x.1) (inner role ts)

-- statements so far
pub record FoundStmts (b : ℕ) (start : List Token) (ss : List Stmt) (rest : List Token) : Type 0 where
  pub seen : Seen (Each (λ s. SpeltStmt s InBlock) ss) start rest
  pub depth : deepest (map stmt_depth ss) ≤ b
  pub placed : all_stand (map stand_of ss) ≡ true

module _ (b : ℕ) (inner : ByRole) (good : SoundByRole b inner) where
  next_stmt_found : (start : List Token) (ss : List Stmt) (ts : List Token) → FoundStmts b start ss ts → Every (λ x. FoundStmts b start x.0 x.1) (next_stmt inner ss ts)
  unfolding next_stmt
  next_stmt_found start ss ts f =
      every_bind (inner InBlock ts) _ (good.sound InBlock ts)
      (λ s g. every_some (record {
        seen = seen_each_push (λ s. SpeltStmt s InBlock) ss s.0 f.seen g.seen;
        depth = omega (arith, f.depth, g.depth, ap deepest (map_push stmt_depth ss s.0), deepest_push (map stmt_depth ss) (stmt_depth s.0));
        placed = ap all_stand (map_push stand_of ss s.0) ∙ all_push (λ (p : Stand). p.placed) (map stand_of ss) (stand_of s.0) f.placed g.placed;
      }))

  -- statements, and the brace behind them
  pub record FoundBlock (start : List Token) (ss : List Stmt) (rest : List Token) : Type 0 where
    pub seen : Seen (Each (λ s. SpeltStmt s InBlock) ss ▸ Sign mark.CloseBrace) start rest
    pub depth : deepest (map stmt_depth ss) ≤ b
    pub placed : all_stand (map stand_of ss) ≡ true

  pub stmts_found : (ts : List Token) → Every (λ x. FoundBlock ts x.0 x.1) (stmts_at inner ts)
  unfolding stmts_at
  stmts_found ts =
      every_bind (repeated ends_block (next_stmt inner) [] ts) _
      (every_repeated ends_block (next_stmt inner) (FoundStmts b ts) (λ ss rest i _. next_stmt_found ts ss rest i) [] ts (record { seen = seen_nothing; depth = omega arith; placed = refl }))
      (λ ss f. every_bind (mark_at mark.CloseBrace ss.1) _ (mark_stands mark.CloseBrace ss.1)
      (λ rest at. every_some (record { seen = seen_then f.0.seen (seen_stands at); depth = f.0.depth; placed = f.0.placed })))

  module _ (role : Role) (whole : is_whole role ≡ true) (start ts : List Token) where
    block_found : Stands (kind.Mark mark.OpenBrace) start ts → Every (FoundRest role b start) (block_at inner start ts)
    unfolding block_at
    block_found at =
        every_bind (stmts_at inner ts) _ (stmts_found ts)
        (λ ss f. found_stmt b role start (F.Block ss.0) (form.Block ss.0) ss.1 (form.rolls-Block ss.0)
        (seen_given whole (seen_then (seen_stands at) f.seen)) (omega (arith, stands_less at, seen_no_more f.seen)) f.depth f.placed (never_else _))

    reorder_found : Stands (kind.Key key.Reorder) start ts → Every (FoundRest role b start) (reorder_at inner start ts)
    unfolding reorder_at
    reorder_found at =
        every_bind (mark_at mark.OpenBrace ts) _ (mark_stands mark.OpenBrace ts)
        (λ opening mid. every_bind (stmts_at inner opening) _ (stmts_found opening)
        (λ ss f. found_stmt b role start (F.Reorder ss.0) (form.Reorder ss.0) ss.1 (form.rolls-Reorder ss.0)
        (seen_given whole (seen_then (seen_stands at) (seen_then (seen_stands mid) f.seen))) (omega (arith, stands_less at, stands_less mid, seen_no_more f.seen)) f.depth f.placed (never_else _)))

    if_found : Stands (kind.Key key.If) start ts → Every (FoundRest role b start) (if_at inner b start ts)
    unfolding if_at behind_if
    if_found at =
        every_bind (parens_at b ts) _ (parens_found b ts)
        (λ c f. every_bind (inner AsBody c.1) _ (good.sound AsBody c.1)
        (λ a g. every_if (key_ahead key.Else a.1) _ _
        (λ some. every_bind (key_at key.Else a.1) _ (key_stands key.Else a.1)
        (λ other mid. every_bind (inner AsBody other) _ (good.sound AsBody other)
        (λ d h. found_stmt b role start (F.If c.0 a.0 (Some d.0)) (form.If c.0 a.0 (Some d.0)) d.1 (form.rolls-If c.0 a.0 (Some d.0))
        (seen_given whole (seen_then (seen_stands at) (seen_then f.0 (seen_then g.seen (seen_then (seen_stands mid) h.seen)))))
        (omega (arith, stands_less at, f.1, g.less, stands_less mid, h.less)) (omega (arith, f.2, g.depth, h.depth))
        (both (both (both f.3 g.placed) (no_taking a.0 a.1 g.no_else some)) h.placed) h.no_else)))
        (λ none. found_stmt b role start (F.If c.0 a.0 None) (form.If c.0 a.0 None) a.1 (form.rolls-If c.0 a.0 None)
        (seen_given whole (seen_then (seen_stands at) (seen_then f.0 (seen_then g.seen seen_nothing))))
        (omega (arith, stands_less at, f.1, g.less)) (omega (arith, f.2, g.depth)) (both f.3 g.placed) (λ _. none))))
      where
        no_taking : (s : Stmt) (rest : List Token) → ((stand_of s).takes_else ≡ true → key_ahead key.Else rest ≡ false) → key_ahead key.Else rest ≡ true → not (stand_of s).takes_else ≡ true
        no_taking s rest f some = go (stand_of s).takes_else f
          where
            go : (t : Bool) → (t ≡ true → key_ahead key.Else rest ≡ false) → not t ≡ true
            go false f = refl
            go true f = let bad : true ≡ false = sym some ∙ f refl in absurd (cc)

    while_found : Stands (kind.Key key.While) start ts → Every (FoundRest role b start) (while_at inner b start ts)
    unfolding while_at
    while_found at =
        every_bind (parens_at b ts) _ (parens_found b ts)
        (λ c f. every_bind (inner AsBody c.1) _ (good.sound AsBody c.1)
        (λ a g. found_stmt b role start (F.While c.0 a.0) (form.While c.0 a.0) a.1 (form.rolls-While c.0 a.0)
        (seen_given whole (seen_then (seen_stands at) (seen_then f.0 g.seen)))
        (omega (arith, stands_less at, f.1, g.less)) (omega (arith, f.2, g.depth)) (both f.3 g.placed) g.no_else))

    repeat_found : Stands (kind.Key key.Repeat) start ts → Every (FoundRest role b start) (repeat_at inner b start ts)
    unfolding repeat_at
    repeat_found at =
        every_bind (parens_at b ts) _ (parens_found b ts)
        (λ c f. every_bind (inner AsBody c.1) _ (good.sound AsBody c.1)
        (λ a g. found_stmt b role start (F.Repeat c.0 a.0) (form.Repeat c.0 a.0) a.1 (form.rolls-Repeat c.0 a.0)
        (seen_given whole (seen_then (seen_stands at) (seen_then f.0 g.seen)))
        (omega (arith, stands_less at, f.1, g.less)) (omega (arith, f.2, g.depth)) (both f.3 g.placed) g.no_else))

    minrepeat_found : Stands (kind.Key key.Minrepeat) start ts → Every (FoundRest role b start) (minrepeat_at inner start ts)
    unfolding minrepeat_at
    minrepeat_found at =
        every_bind (inner AsBody ts) _ (good.sound AsBody ts)
        (λ a g. found_stmt b role start (F.MinRepeat a.0) (form.MinRepeat a.0) a.1 (form.rolls-MinRepeat a.0)
        (seen_given whole (seen_then (seen_stands at) g.seen)) (omega (arith, stands_less at, g.less)) g.depth g.placed g.no_else)

    for_found : Stands (kind.Key key.For) start ts → Every (FoundRest role b start) (for_at inner b start ts)
    unfolding for_at for_body_at between_semicolons
    for_found at =
        every_bind (mark_at mark.OpenParen ts) _ (mark_stands mark.OpenParen ts)
        (λ opening mid. every_bind (inner AsFirst opening) _ (good.sound AsFirst opening)
        (λ first f. every_bind {Q = λ (c : Expr × List Token). Seen (Sign mark.Semicolon ▸ SpeltExpr c.0 ▸ Sign mark.Semicolon) first.1 c.1 × (expr_depth c.0 ≤ b) × (expr_placed c.0 ≡ true)} (between_semicolons b first.1) _
        (every_bind (mark_at mark.Semicolon first.1) _ (mark_stands mark.Semicolon first.1)
        (λ before p. every_bind (value_at b before) _ (value_found b before)
        (λ c g. every_bind (mark_at mark.Semicolon c.1) _ (mark_stands mark.Semicolon c.1)
        (λ behind q. every_some (seen_then (seen_stands p) (seen_then g.seen (seen_stands q)), g.depth, g.placed)))))
        (λ c g. every_bind (inner AsNext c.1) _ (good.sound AsNext c.1)
        (λ next h. every_bind (mark_at mark.CloseParen next.1) _ (mark_stands mark.CloseParen next.1)
        (λ closing end. every_bind (inner AsBody closing) _ (good.sound AsBody closing)
        (λ body k. found_stmt b role start (F.For first.0 c.0 next.0 body.0) (form.For first.0 c.0 next.0 body.0) body.1 (form.rolls-For first.0 c.0 next.0 body.0)
        (seen_given whole (spliced first.0 next.0 body.0 c.0 at mid f.seen g.0 h.seen end k.seen))
        (omega (arith, stands_less at, stands_less mid, f.less, seen_no_more g.0, h.less, stands_less end, k.less)) (omega (arith, f.depth, g.1, h.depth, k.depth))
        (both (both (both f.placed g.2) h.placed) k.placed) k.no_else))))))
      where
        spliced : (first next body : Stmt) (c : Expr) {o1 o2 o3 o4 o5 o6 : List Token} → Stands (kind.Key key.For) start ts → Stands (kind.Mark mark.OpenParen) ts o1 → Seen (SpeltStmt first AsFirst) o1 o2 → Seen (Sign mark.Semicolon ▸ SpeltExpr c ▸ Sign mark.Semicolon) o2 o3 → Seen (SpeltStmt next AsNext) o3 o4 → Stands (kind.Mark mark.CloseParen) o4 o5 → Seen (SpeltStmt body AsBody) o5 o6 → Seen (Keyword key.For ▸ Sign mark.OpenParen ▸ SpeltStmt first AsFirst ▸ Sign mark.Semicolon ▸ SpeltExpr c ▸ Sign mark.Semicolon ▸ SpeltStmt next AsNext ▸ Sign mark.CloseParen ▸ SpeltStmt body AsBody) start o6
        spliced first next body c at mid f g h end k = seen_then (seen_stands at) (seen_then (seen_stands mid) (seen_then f (seen_splice (Sign mark.Semicolon) (SpeltExpr c) (Sign mark.Semicolon) (SpeltStmt next AsNext ▸ Sign mark.CloseParen ▸ SpeltStmt body AsBody) (seen_then g (seen_then h (seen_then (seen_stands end) k))))))

    whole_found : (k : Kind) (s : Span) → start ≡ token k s ∷ ts → Every (FoundRest role b start) (whole_at inner b start k ts)
    unfolding whole_at
    whole_found (kind.Mark mark.OpenBrace) s e = block_found (record { at = s; is = e })
    whole_found (kind.Mark mark.Semicolon) s e = empty_found b role whole start ts (record { at = s; is = e })
    whole_found (kind.Key key.If) s e = if_found (record { at = s; is = e })
    whole_found (kind.Key key.While) s e = while_found (record { at = s; is = e })
    whole_found (kind.Key key.For) s e = for_found (record { at = s; is = e })
    whole_found (kind.Key key.Return) s e = return_found b role whole start ts (record { at = s; is = e })
    whole_found (kind.Key key.Assert) s e = assert_found b role whole start ts (record { at = s; is = e })
    whole_found (kind.Key key.Assume) s e = assume_found b role whole start ts (record { at = s; is = e })
    whole_found (kind.Key key.Minimize) s e = minimize_found b role whole start ts (record { at = s; is = e })
    whole_found (kind.Key key.Repeat) s e = repeat_found (record { at = s; is = e })
    whole_found (kind.Key key.Minrepeat) s e = minrepeat_found (record { at = s; is = e })
    whole_found (kind.Key key.Reorder) s e = reorder_found (record { at = s; is = e })
    whole_found _ s e = every_none

  kind_found : (role : Role) (k : Kind) (s : Span) (ts : List Token) → Every (FoundRest role b (token k s ∷ ts)) (stmt_kind inner b role (token k s ∷ ts) k ts)
  kind_found role (kind.Key key.Int) s ts = declare_found role b (token (kind.Key key.Int) s ∷ ts)
  kind_found role (kind.Key key.Bit) s ts = declare_found role b (token (kind.Key key.Bit) s ∷ ts)
  kind_found role (kind.Mark mark.Increment) s ts = before_found role b step.PreInc mark.Increment (token (kind.Mark mark.Increment) s ∷ ts) ts (λ e. refl) (record { at = s; is = refl })
  kind_found role (kind.Mark mark.Decrement) s ts = before_found role b step.PreDec mark.Decrement (token (kind.Mark mark.Decrement) s ∷ ts) ts (λ e. refl) (record { at = s; is = refl })
  kind_found role (kind.Word x) s ts = named_found role b (token (kind.Word x) s ∷ ts)
  kind_found role (kind.Mark mark.OpenPattern) s ts = simple_found role b (token (kind.Mark mark.OpenPattern) s ∷ ts)
  kind_found role k s ts = every_given (is_whole role) (whole_at inner b (token k s ∷ ts) k ts) (λ whole. whole_found role whole (token k s ∷ ts) ts k s refl)

  form_found : (role : Role) (ts : List Token) → Every (FoundRest role b ts) (form_at inner b role ts)
  unfolding form_at
  form_found role [] = every_none
  form_found role (t ∷ ts) = kind_found role t.kind t.span ts

-- what is read as a statement is spelt so
pub stmt_sound : (b : ℕ) → SoundByRole b (stmt_at b)
unfolding stmt_at
stmt_sound zero = record { sound = λ role ts. every_none }
stmt_sound (suc b) = record { sound = λ role ts. form_found b (stmt_at b) (stmt_sound b) role ts }
