-- What the readers of patterns read is spelt so, and how deep it is.
use Rattle.std.proofs.Common.{◌≡◌, ℕ, zero, suc, max, ◌<◌, ◌≤◌, Bool, true, ◌&&◌, IsTrue, List, [], ◌∷◌, ◌++◌, length, map, Some, None, refl, sym, ap, ◌∙◌, subst, arith}
use Rattle.sk_base.specs.declared.span.Span.{Span}
use Rattle.sk_tree.specs.declared.token.Token.{Token}
use Rattle.sk_tree.specs.declared.token.Kind.{Kind}
use Rattle.sk_tree.specs.declared.token.Kind.TheVariants as kind
use Rattle.sk_tree.specs.declared.token.Mark.TheVariants as mark
use Rattle.sk_tree.specs.declared.pattern.Pattern.{Pattern}
use Rattle.sk_tree.specs.declared.pattern.Pattern.TheVariants as pattern
use Rattle.sk_tree.specs.declared.pattern.Pattern.TheOpen as P
use Rattle.sk_tree.specs.declared.pattern.Pattern.TheViews.{roll-Pattern}
use Rattle.sk_tree.specs.declared.pattern.Pattern.TheFolds.{map-Pattern, fold-roll-Pattern}
use Rattle.sk_tree.specs.Phrase.{Phrase, Sign, Each, Between}
use Rattle.sk_tree.specs.Spelt.{PatternRole, AsChoice, AsSequence, AsPart, AsPlain, SpeltPart, are_some, is_plain, may_stand}
use Rattle.sk_tree.specs.Depth.{deepest, pattern_depth, pattern_step_depth}
use Rattle.sk_tree.proofs.Layers.{PartLayer, part_spelt}
use Rattle.sk_parser_laws.specs.declared.pieces.DeepPattern.{DeepPattern}
use Rattle.sk_parser_laws.specs.declared.pieces.Parts.{Parts}
use Rattle.sk_parser_laws.specs.Readers.{◌>>=◌, mark_ahead, mark_at, repeated, deeper}
use Rattle.sk_parser_laws.specs.PatternReader.{formed, one_part, push_part, ByRole, next_sequence, ends_choice, choice_at, next_part, ends_sequence, sequence_at, group_at, plain_token, plain_kind, plain_at, behind_plain, part_at, by_role, pattern_at}
use Rattle.sk_parser_laws.proofs.Loops.{pair, Every, every_none, every_some, every_bind, every_if, every_more, every_deeper, every_repeated, Shrinks}
use Rattle.sk_parser_laws.proofs.Seen.{token, Seen, seen_then, seen_given, seen_stands, stands_less, mark_stands, seen_between_one, seen_each_one, seen_between_more, seen_each_push}

-- a pattern in its role, from the start up to the rest, in its budget
pub record FoundPattern (budget : ℕ) (role : PatternRole) (start : List Token) (d : DeepPattern) (rest : List Token) : Type 0 where
  pub seen : Seen (SpeltPart d.pattern role) start rest
  pub less : length rest < length start
  pub depth : d.depth ≡ pattern_depth d.pattern
  pub within : d.depth ≤ budget

-- a reader of parts whose answers are found
pub record SoundByRole (budget : ℕ) (inner : ByRole) : Type 0 where
  pub sound : (role : PatternRole) (ts : List Token) → Every (λ x. FoundPattern budget role ts x.0 x.1) (inner role ts)

depth_layer : P.Pattern-F Pattern → P.Pattern-F ℕ
depth_layer l = map-Pattern Pattern ℕ pattern_depth l

every_formed : (budget : ℕ) (role : PatternRole) (start : List Token) (l : P.Pattern-F Pattern) (p : Pattern) (depth : ℕ) (rest : List Token) → roll-Pattern l ≡ p → Seen (PartLayer l role) start rest → length rest < length start → suc depth ≡ pattern_step_depth (map-Pattern Pattern ℕ pattern_depth l) → Every (λ x. FoundPattern budget role start x.0 x.1) (formed budget p depth rest)
unfolding formed
every_formed budget role start l p depth rest rolls seen less d =
    every_bind (deeper budget depth) _ (every_deeper budget depth)
    (λ n is. every_some (record {
      seen = record { front = seen.front; split = seen.split; spelt = subst (λ q. SpeltPart q role seen.front) rolls (subst (λ (P : PatternRole → Phrase). P role seen.front) (sym (part_spelt l)) seen.spelt) };
      less = less;
      depth = is.0 ∙ d ∙ sym (fold-roll-Pattern ℕ pattern_step_depth l) ∙ ap pattern_depth rolls;
      within = is.1;
    }))

pub deepest_push : (ns : List ℕ) (n : ℕ) → deepest (ns ++ n ∷ []) ≡ max (deepest ns) n
deepest_push [] n = omega arith
deepest_push (m ∷ ns) n = omega (arith, deepest_push ns n)

pub map_push : {A B : Type 0} (f : A → B) (xs : List A) (a : A) → map f (xs ++ a ∷ []) ≡ map f xs ++ f a ∷ []
map_push f [] a = refl
map_push f (x ∷ xs) a = ap (λ l. f x ∷ l) (map_push f xs a)

pub some_push : {A : Type 0} (xs : List A) (a : A) → are_some (xs ++ a ∷ []) ≡ true
some_push [] a = refl
some_push (x ∷ xs) a = refl

pub is_true : {b : Bool} → b ≡ true → IsTrue b
is_true e = e

abbrev Sequences : List Pattern → Phrase
Sequences = Between (Sign mark.Bar) (λ p. SpeltPart p AsSequence)

abbrev PartsOf : List Pattern → Phrase
PartsOf = Each (λ p. SpeltPart p AsPart)

-- parts so far
pub record FoundParts (spelt : List Pattern → Phrase) (start : List Token) (parts : Parts) (rest : List Token) : Type 0 where
  pub seen : Seen (spelt parts.items) start rest
  pub some : are_some parts.items ≡ true
  pub less : length rest < length start
  pub depth : parts.depth ≡ deepest (map pattern_depth parts.items)

one_depth : (d : DeepPattern) → d.depth ≡ pattern_depth d.pattern → d.depth ≡ deepest (map pattern_depth (d.pattern ∷ []))
one_depth d e = omega (arith, e)

push_depth : (parts : Parts) (d : DeepPattern) → parts.depth ≡ deepest (map pattern_depth parts.items) → d.depth ≡ pattern_depth d.pattern → max parts.depth d.depth ≡ deepest (map pattern_depth (parts.items ++ d.pattern ∷ []))
push_depth parts d e f = (λ i. max (e i) (f i)) ∙ sym (ap deepest (map_push pattern_depth parts.items d.pattern) ∙ deepest_push (map pattern_depth parts.items) (pattern_depth d.pattern))

module _ (b : ℕ) (inner : ByRole) (good : SoundByRole b inner) where
  next_sequence_found : (start : List Token) (parts : Parts) (ts : List Token) → FoundParts Sequences start parts ts → Every (λ x. FoundParts Sequences start x.0 x.1) (next_sequence inner parts ts)
  unfolding next_sequence push_part
  next_sequence_found start parts ts f =
      every_bind (mark_at mark.Bar ts) _ (mark_stands mark.Bar ts)
      (λ bar at. every_bind (inner AsSequence bar) _ (good.sound AsSequence bar)
      (λ p g. every_some (record {
        seen = seen_between_more (Sign mark.Bar) (λ p. SpeltPart p AsSequence) parts.items p.0.pattern f.some f.seen (seen_then (seen_stands at) g.seen);
        some = some_push parts.items p.0.pattern;
        less = omega (arith, f.less, stands_less at, g.less);
        depth = push_depth parts p.0 f.depth g.depth;
      })))

  pub next_sequence_shrinks : Shrinks (next_sequence inner)
  unfolding next_sequence
  next_sequence_shrinks = record {
    takes = λ parts ts r rest e.
        (every_bind {Q = λ (bar : List Token). length bar < length ts} {R = λ (x : Parts × List Token). length x.1 < length ts} (mark_at mark.Bar ts) _ (every_more (mark_stands mark.Bar ts) (λ bar at. stands_less at))
        (λ bar l. every_bind (inner AsSequence bar) _ (good.sound AsSequence bar) (λ p g. every_some (omega (arith, g.less))))).each (pair r rest) e;
  }

  choice_found : (ts : List Token) → Every (λ x. FoundPattern (suc b) AsChoice ts x.0 x.1) (choice_at inner (suc b) ts)
  unfolding choice_at
  choice_found ts =
      every_bind (inner AsSequence ts) _ (good.sound AsSequence ts)
      (λ p f. every_bind (repeated ends_choice (next_sequence inner) (one_part p.0) p.1) _
      (every_repeated ends_choice (next_sequence inner) (FoundParts Sequences ts) (λ parts rest i e. next_sequence_found ts parts rest i) (one_part p.0) p.1
      (record { seen = seen_between_one (Sign mark.Bar) (λ p. SpeltPart p AsSequence) p.0.pattern f.seen; some = refl; less = f.less; depth = one_depth p.0 f.depth }))
      (λ parts g. every_formed (suc b) AsChoice ts (P.Choice parts.0.items) (pattern.Choice parts.0.items) parts.0.depth parts.1 (pattern.rolls-Choice parts.0.items) (seen_given (is_true g.0.some) g.0.seen) g.0.less (ap suc g.0.depth)))

  next_part_found : (start : List Token) (parts : Parts) (ts : List Token) → FoundParts PartsOf start parts ts → Every (λ x. FoundParts PartsOf start x.0 x.1) (next_part inner parts ts)
  unfolding next_part push_part
  next_part_found start parts ts f =
      every_bind (inner AsPart ts) _ (good.sound AsPart ts)
      (λ p g. every_some (record {
        seen = seen_each_push (λ p. SpeltPart p AsPart) parts.items p.0.pattern f.seen g.seen;
        some = some_push parts.items p.0.pattern;
        less = omega (arith, f.less, g.less);
        depth = push_depth parts p.0 f.depth g.depth;
      }))

  pub next_part_shrinks : Shrinks (next_part inner)
  unfolding next_part
  next_part_shrinks = record {
    takes = λ parts ts r rest e.
        (every_bind {R = λ (x : Parts × List Token). length x.1 < length ts} (inner AsPart ts) _ (good.sound AsPart ts) (λ p g. every_some g.less)).each (pair r rest) e;
  }

  sequence_found : (ts : List Token) → Every (λ x. FoundPattern (suc b) AsSequence ts x.0 x.1) (sequence_at inner (suc b) ts)
  unfolding sequence_at
  sequence_found ts =
      every_bind (inner AsPart ts) _ (good.sound AsPart ts)
      (λ p f. every_bind (repeated ends_sequence (next_part inner) (one_part p.0) p.1) _
      (every_repeated ends_sequence (next_part inner) (FoundParts PartsOf ts) (λ parts rest i e. next_part_found ts parts rest i) (one_part p.0) p.1
      (record { seen = seen_each_one (λ p. SpeltPart p AsPart) p.0.pattern f.seen; some = refl; less = f.less; depth = one_depth p.0 f.depth }))
      (λ parts g. every_formed (suc b) AsSequence ts (P.Seq parts.0.items) (pattern.Seq parts.0.items) parts.0.depth parts.1 (pattern.rolls-Seq parts.0.items) (seen_given (is_true g.0.some) g.0.seen) g.0.less (ap suc g.0.depth)))

  group_found : (role : PatternRole) → is_plain role ≡ true → (s : Span) (ts : List Token) → Every (λ x. FoundPattern (suc b) role (token (kind.Mark mark.OpenParen) s ∷ ts) x.0 x.1) (group_at inner (suc b) ts)
  unfolding group_at
  group_found role plain s ts =
      every_bind (inner AsChoice ts) _ (good.sound AsChoice ts)
      (λ p f. every_bind (mark_at mark.CloseParen p.1) _ (mark_stands mark.CloseParen p.1)
      (λ rest at. every_formed (suc b) role (token (kind.Mark mark.OpenParen) s ∷ ts) (P.Group p.0.pattern) (pattern.Group p.0.pattern) p.0.depth rest (pattern.rolls-Group p.0.pattern)
      (seen_given (is_true plain) (seen_then (seen_stands (record { at = s; is = refl })) (seen_then f.seen (seen_stands at))))
      (omega (arith, f.less, stands_less at)) (ap suc f.depth)))

  token_found : (role : PatternRole) → is_plain role ≡ true → (t : Token) (ts : List Token) → Every (λ x. FoundPattern (suc b) role (t ∷ ts) x.0 x.1) (plain_token inner (suc b) t ts)
  token_found role plain t ts =
      every_if (may_stand t.kind) (formed (suc b) (pattern.One t) 0 ts) None
      (λ e. every_formed (suc b) role (t ∷ ts) (P.One t) (pattern.One t) 0 ts (pattern.rolls-One t)
      (record { front = t ∷ []; split = refl; spelt = (is_true (both plain e), refl) }) (omega arith) refl)
      (λ e. every_none)
    where
      both : {x y : Bool} → x ≡ true → y ≡ true → (x && y) ≡ true
      both f g = rw (f, g) refl

  plain_found : (role : PatternRole) → is_plain role ≡ true → (ts : List Token) → Every (λ x. FoundPattern (suc b) role ts x.0 x.1) (plain_at inner (suc b) ts)
  unfolding plain_at
  plain_found role plain [] = every_none
  plain_found role plain (t ∷ ts) = go t.kind refl
    where
      go : (k : Kind) → t.kind ≡ k → Every (λ x. FoundPattern (suc b) role (t ∷ ts) x.0 x.1) (plain_kind inner (suc b) t k ts)
      go (kind.Mark mark.OpenParen) e = subst (λ (k : Kind). Every (λ x. FoundPattern (suc b) role (token k t.span ∷ ts) x.0 x.1) (group_at inner (suc b) ts)) (sym e) (group_found role plain t.span ts)
      go _ e = token_found role plain t ts

  part_found : (ts : List Token) → Every (λ x. FoundPattern (suc b) AsPart ts x.0 x.1) (part_at inner (suc b) ts)
  unfolding part_at behind_plain
  part_found ts = record { each = λ x e. (go x e).each x e }
    where
      maybe : (p : DeepPattern × List Token) → FoundPattern (suc b) AsPlain ts p.0 p.1 → Every (λ x. FoundPattern (suc b) AsPart ts x.0 x.1) (mark_at mark.Question p.1 >>= λ rest. formed (suc b) (pattern.Maybe p.0.pattern) p.0.depth rest)
      maybe p f =
          every_bind (mark_at mark.Question p.1) _ (mark_stands mark.Question p.1)
          (λ rest at. every_formed (suc b) AsPart ts (P.Maybe p.0.pattern) (pattern.Maybe p.0.pattern) p.0.depth rest (pattern.rolls-Maybe p.0.pattern)
          (seen_then f.seen (seen_stands at)) (omega (arith, f.less, stands_less at)) (ap suc f.depth))

      go : (x : DeepPattern × List Token) → part_at inner (suc b) ts ≡ Some x → Every (λ x. FoundPattern (suc b) AsPart ts x.0 x.1) (part_at inner (suc b) ts)
      go x e =
          every_bind {Q = λ (p : DeepPattern × List Token). FoundPattern (suc b) AsPlain ts p.0 p.1 × FoundPattern (suc b) AsPart ts p.0 p.1} (plain_at inner (suc b) ts) _
          (record { each = λ p h. ((plain_found AsPlain refl ts).each p h, (plain_found AsPart refl ts).each p h) })
          (λ p f. every_if (mark_ahead mark.Question p.1) _ (Some p) (λ _. maybe p f.0) (λ _. every_some f.1))

  role_found : (role : PatternRole) (ts : List Token) → Every (λ x. FoundPattern (suc b) role ts x.0 x.1) (by_role inner (suc b) role ts)
  role_found AsChoice ts = choice_found ts
  role_found AsSequence ts = sequence_found ts
  role_found AsPart ts = part_found ts
  role_found AsPlain ts = plain_found AsPlain refl ts

pub pattern_sound : (b : ℕ) → SoundByRole b (pattern_at b)
unfolding pattern_at
pattern_sound zero = record { sound = λ role ts. every_none }
pattern_sound (suc b) = record { sound = λ role ts. role_found b (pattern_at b) (pattern_sound b) role ts }
