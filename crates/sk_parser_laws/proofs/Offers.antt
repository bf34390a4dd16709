-- The trees that pattern nodes hold are those that spelling asks for, in a text and in a string.
use Rattle.std.proofs.Common.{◌≡◌, ℕ, suc, ◌-◌, ◌<◌, Bool, true, false, leb, List, [], ◌∷◌, ◌++◌, length, map, Option, Some, None, refl, ap, ◌∙◌, subst, arith, if◌then◌else◌}
use Rattle.sk_tree.specs.declared.token.Token.{Token}
use Rattle.sk_tree.specs.declared.token.Mark.TheVariants as mark
use Rattle.sk_tree.specs.declared.pattern.Pattern.{Pattern}
use Rattle.sk_tree.specs.declared.expr.Expr.{Expr}
use Rattle.sk_tree.specs.Phrase.{Sign, ◌▸◌}
use Rattle.sk_tree.specs.Strings.{strings_of}
use Rattle.sk_tree.specs.Spelt.{Saying, AsChoice, SpeltPart}
use Rattle.sk_tree.specs.Placed.{Place, all_placed, place_of}
use Rattle.sk_parser_laws.specs.ExprReader.{next_expr, next_field, behind_base, behind_operand, expr_at}
use Rattle.sk_parser_laws.specs.StringReader.{all_read, no_trees, string_at, strings_at, or_nothing, trees_of, offers}
use Rattle.sk_parser_laws.proofs.Loops.{Every, every_none, every_some, every_bind, Shrinks}
use Rattle.sk_parser_laws.proofs.PatternSound.{map_push}
use Rattle.sk_parser_laws.proofs.ExprSound.{all_push, GoodTrees, SoundByLevel, expr_sound, next_expr_shrinks, next_field_shrinks, behind_base_shrinks, behind_operand_shrinks}

-- what a pattern says in a string: nothing
abbrev pub Silent : Saying
Silent pattern trees ts = ⊥

pub silent_trees : GoodTrees Silent no_trees
silent_trees = record { spelt = λ p es ts rest e f. absurd (cc); placed = λ p es e. absurd (cc) }

pub silent_sound : (b : ℕ) → SoundByLevel Silent b (expr_at no_trees b)
silent_sound b = expr_sound Silent no_trees silent_trees b

all_read_every : {A : Type 0} {Q : A → Type 0} (a : A) (ts : List Token) → Q a → Every Q (all_read a ts)
all_read_every a [] q = every_some q
all_read_every a (t ∷ ts) q = every_none

string_placed : (s : List Token) → Every (λ e. (place_of e).placed ≡ true) (string_at s)
unfolding string_at
string_placed s =
    every_bind (expr_at no_trees 256 13 s) _ ((silent_sound 256).sound 13 s (omega arith))
    (λ e f. all_read_every {Q = λ (x : Expr). (place_of x).placed ≡ true} e.0.expr e.1 f.of.placed)

abbrev AllPlaced : List Expr → Type 0
AllPlaced es = all_placed (map place_of es) ≡ true

strings_placed : (ss : List (List Token)) (trees : List Expr) → AllPlaced trees → Every AllPlaced (strings_at trees ss)
unfolding strings_at
strings_placed [] trees h = every_some h
strings_placed (s ∷ ss) trees h =
    every_bind (string_at s) (λ e. strings_at (trees ++ e ∷ []) ss) (string_placed s)
    (λ e p. strings_placed ss (trees ++ e ∷ []) (ap all_placed (map_push place_of trees e) ∙ all_push (λ (q : Place). q.placed) (map place_of trees) (place_of e) h p))

trees_placed : (p : Pattern) → AllPlaced (trees_of p)
unfolding trees_of
trees_placed p = go (leb (length (strings_of p)) 128) (strings_at [] (strings_of p)) refl
  where
    go : (b : Bool) (o : Option (List Expr)) → strings_at [] (strings_of p) ≡ o → AllPlaced (if b then or_nothing o else [])
    go false o is = refl
    go true None is = refl
    go true (Some es) is = (strings_placed (strings_of p) [] refl).each es is

-- A pattern node in a text, whatever trees it holds.
abbrev pub Lax : Saying
Lax pattern trees = Sign mark.OpenPattern ▸ SpeltPart pattern AsChoice ▸ Sign mark.ClosePattern

pub lax_trees : (in_text : Bool) → GoodTrees Lax (offers in_text)
unfolding offers
lax_trees true = record {
  spelt = λ p es ts rest e f. f;
  placed = λ p es e. let same : trees_of p ≡ es = cc in subst AllPlaced same (trees_placed p);
}
lax_trees false = record { spelt = λ p es ts rest e f. f; placed = λ p es e. absurd (cc) }

pub exprs_sound : (in_text : Bool) (b : ℕ) → SoundByLevel Lax b (expr_at (offers in_text) b)
exprs_sound in_text b = expr_sound Lax (offers in_text) (lax_trees in_text) b

-- Each turn of a reader of expressions takes a token.

pub next_expr_takes : (in_text : Bool) (i : ℕ) → Shrinks (next_expr (expr_at (offers in_text) i))
next_expr_takes in_text i = next_expr_shrinks Lax i (expr_at (offers in_text) i) (exprs_sound in_text i)

pub next_field_takes : (in_text : Bool) (b : ℕ) → 0 < b → Shrinks (next_field (expr_at (offers in_text) (b - 1)) b)
next_field_takes in_text b h =
    let e : suc (b - 1) ≡ b = omega arith in
    subst (λ n. Shrinks (next_field (expr_at (offers in_text) (b - 1)) n)) e (next_field_shrinks Lax (b - 1) (expr_at (offers in_text) (b - 1)) (exprs_sound in_text (b - 1)))

pub behind_base_takes : (in_text : Bool) (b : ℕ) (start : List Token) → 0 < b → Shrinks (behind_base (expr_at (offers in_text) (b - 1)) b start)
behind_base_takes in_text b start h =
    let e : suc (b - 1) ≡ b = omega arith in
    subst (λ n. Shrinks (behind_base (expr_at (offers in_text) (b - 1)) n start)) e (behind_base_shrinks Lax (b - 1) (expr_at (offers in_text) (b - 1)) (exprs_sound in_text (b - 1)) start)

pub behind_operand_takes : (in_text : Bool) (b : ℕ) (start : List Token) → 0 < b → Shrinks (behind_operand (expr_at (offers in_text) (b - 1)) b start)
behind_operand_takes in_text b start h =
    let e : suc (b - 1) ≡ b = omega arith in
    subst (λ n. Shrinks (behind_operand (expr_at (offers in_text) (b - 1)) n start)) e (behind_operand_shrinks Lax (b - 1) (expr_at (offers in_text) (b - 1)) (exprs_sound in_text (b - 1)) start)
