-- How far a text has been read, word by word.
use Rattle.std.proofs.Common.{◌≡◌, ◌≢◌, ℕ, zero, suc, ◌+◌, ◌<◌, ◌≤◌, ◌++◌, List, [], ◌∷◌, length, get_or, take, drop, map, refl, sym, ◌∙◌, ap, arith, subst}
use Rattle.std.specs.Prelude.{ℤ, pos, Option, Some, None, IfSome}
use Rattle.std.specs.List.{flat_map}
use Rattle.std.specs.Borrow.{Bor}
use Rattle.std.proofs.lemmas.List.{append-nil, append_assoc, take_more, take_all, take-append-drop, flat_map_more, get_or-map, length-map, drop-map}
use Rattle.std.proofs.lemmas.List.Concat.{flat_map-append}
use Rattle.sk_clause.specs.declared.lit.Lit.{Lit}
use Rattle.dimacs_text.specs.Formula.{Text, said, Writes, Spells, numbers, lit_number, IsAllowed, AreAllowed, AreRows}
use Rattle.dimacs_text.specs.Reading.{IsRead, IsStuck}
use Rattle.dimacs_text.proofs.NumberLemmas.{numbers_lit, numbers_end, numbers_front, numbers_same, none_begun, begun_allowed, none_allowed, no_clauses_allowed, lit_allowed, last_allowed, clause_allowed, spells_push, spells_split, spells_same, first_writes}

pub read_begins : (limit : Option ℕ) → IsRead limit [] [] []
read_begins limit = record { spelt = tt; done_allowed = no_clauses_allowed limit; begun_allowed = none_allowed limit }

pub read_lit : (limit : Option ℕ) (ws : List Text) (done : List (List Lit)) (begun : List Lit) (w : Text) (l : Lit) → IsRead limit ws done begun → Writes w (lit_number l) → IfSome limit (λ n. l.var < n) → IsRead limit (ws ++ w ∷ []) done (begun ++ l ∷ [])
read_lit limit ws done begun w l r h k = record {
  spelt = subst (Spells (ws ++ w ∷ [])) (numbers_lit done begun l) (spells_push ws (numbers done ++ map lit_number begun) w (lit_number l) r.spelt h);
  done_allowed = r.done_allowed;
  begun_allowed = lit_allowed limit begun l r.begun_allowed k;
}

pub read_end : (limit : Option ℕ) (ws : List Text) (done : List (List Lit)) (begun : List Lit) (w : Text) → IsRead limit ws done begun → Writes w (pos 0) → IsRead limit (ws ++ w ∷ []) (done ++ begun ∷ []) []
read_end limit ws done begun w r h = record {
  spelt = subst (Spells (ws ++ w ∷ [])) (numbers_end done begun) (spells_push ws (numbers done ++ map lit_number begun) w (pos 0) r.spelt h);
  done_allowed = clause_allowed limit done begun r.done_allowed r.begun_allowed;
  begun_allowed = none_allowed limit;
}

-- a word that is no number
pub stuck_word : (limit : Option ℕ) (ws : List Text) (done : List (List Lit)) (begun : List Lit) (w : Text) → IsRead limit ws done begun → ((z : ℤ) → Writes w z → ⊥) → IsStuck limit (ws ++ w ∷ [])
stuck_word limit ws done begun w r deny = record {
  never = λ more cs a h.
      let s = spells_split ws (w ∷ more) (numbers done ++ map lit_number begun) (numbers cs) (subst (λ x. Spells x (numbers cs)) (append_assoc ws (w ∷ []) more) h) r.spelt in
      let f = first_writes w more s.0 s.2 in
      deny f.0 f.1;
}

-- a literal whose variable is not below the limit
pub stuck_lit : (limit : Option ℕ) (ws : List Text) (done : List (List Lit)) (begun : List Lit) (w : Text) (l : Lit) → IsRead limit ws done begun → Writes w (lit_number l) → (IfSome limit (λ n. l.var < n) → ⊥) → IsStuck limit (ws ++ w ∷ [])
stuck_lit limit ws done begun w l r h deny = record {
  never = λ more cs a k.
      let spelt : Spells (ws ++ w ∷ []) (numbers done ++ map lit_number (begun ++ l ∷ [])) = subst (Spells (ws ++ w ∷ [])) (numbers_lit done begun l) (spells_push ws (numbers done ++ map lit_number begun) w (lit_number l) r.spelt h) in
      let s = spells_split (ws ++ w ∷ []) more (numbers done ++ map lit_number (begun ++ l ∷ [])) (numbers cs) k spelt in
      let p = numbers_front cs done (map lit_number (begun ++ l ∷ []) ++ s.0) (s.1 ∙ append_assoc (numbers done) (map lit_number (begun ++ l ∷ [])) s.0) in
      deny (last_allowed limit begun l (begun_allowed limit done p.0 (begun ++ l ∷ []) s.0 p.2 (subst (AreAllowed limit) p.1 a)));
}

pub stuck_more : (limit : Option ℕ) (ws vs : List Text) → IsStuck limit ws → IsStuck limit (ws ++ vs)
stuck_more limit ws vs s = record { never = λ more cs a h. s.never (vs ++ more) cs a (subst (λ x. Spells x (numbers cs)) (append_assoc ws vs more) h) }

pub stuck_all : (limit : Option ℕ) (ws xs : List Text) (n : ℕ) → IsStuck limit (ws ++ take n xs) → IsStuck limit (ws ++ xs)
stuck_all limit ws xs n s = subst (IsStuck limit) (append_assoc ws (take n xs) (drop n xs) ∙ ap (λ x. ws ++ x) (take-append-drop n xs)) (stuck_more limit (ws ++ take n xs) (drop n xs) s)

-- one word more, and one line more
pub words_step : (ws xs : List Text) (i : ℕ) (w : Text) → i < length xs → w ≡ get_or xs i [] → (ws ++ take i xs) ++ w ∷ [] ≡ ws ++ take (i + 1) xs
words_step ws xs i w l e =
    append_assoc ws (take i xs) (w ∷ [])
    ∙ ap (λ v. ws ++ (take i xs ++ v ∷ [])) e
    ∙ ap (λ x. ws ++ x) (sym (take_more xs i [] l))

pub lines_step : (ws xs : List Text) (i : ℕ) (line : Text) → i < length xs → line ≡ get_or xs i [] → (ws ++ flat_map said (take i xs)) ++ said line ≡ ws ++ flat_map said (take (i + 1) xs)
lines_step ws xs i line l e =
    flat_map_more said ws (take i xs) line
    ∙ ap (λ v. ws ++ flat_map said (take i xs ++ v ∷ [])) e
    ∙ ap (λ x. ws ++ flat_map said x) (sym (take_more xs i [] l))

pub lt_texts : (lines : List (Bor Text)) (i : ℕ) → i < length lines → i < length (map (λ x. x.now) lines)
lt_texts lines i l = subst (λ n. i < n) (sym (length-map lines (λ x. x.now))) l

pub tail_texts : (from : ℕ) (lines tail : List (Bor Text)) → tail ≡ drop from lines → map (λ x. x.now) tail ≡ drop from (map (λ x. x.now) lines)
tail_texts from lines tail e = ap (map (λ x. x.now)) e ∙ sym (drop-map (λ x. x.now) from lines)

pub text_at : (lines : List (Bor Text)) (i : ℕ) (d : Bor Text) → i < length lines → (get_or lines i d).now ≡ get_or (map (λ x. x.now) lines) i []
text_at lines i d l = sym (get_or-map (λ x. x.now) lines i d [] l)

pub text_step : (ws : List Text) (words : List (Bor Text)) (i : ℕ) (d : Bor Text) → i < length words → (ws ++ take i (map (λ x. x.now) words)) ++ (get_or words i d).now ∷ [] ≡ ws ++ take (i + 1) (map (λ x. x.now) words)
text_step ws words i d l = words_step ws (map (λ x. x.now) words) i (get_or words i d).now (lt_texts words i l) (text_at words i d l)

pub line_step : (ws : List Text) (lines : List (Bor Text)) (i : ℕ) (d : Bor Text) → i < length lines → (ws ++ flat_map said (take i (map (λ x. x.now) lines))) ++ said (get_or lines i d).now ≡ ws ++ flat_map said (take (i + 1) (map (λ x. x.now) lines))
line_step ws lines i d l = lines_step ws (map (λ x. x.now) lines) i (get_or lines i d).now (lt_texts lines i l) (text_at lines i d l)

pub read_begins_at : (limit : Option ℕ) (done : List (List Lit)) (begun : List Lit) → done ≡ [] → begun ≡ [] → IsRead limit [] done begun
read_begins_at limit done begun d b = subst (λ x. IsRead limit [] x begun) (sym d) (subst (λ x. IsRead limit [] [] x) (sym b) (read_begins limit))

-- ---- the end
pub rows_end : (limit : Option ℕ) (rows : List Text) (done : List (List Lit)) (begun : List Lit) → IsRead limit (flat_map said rows) done begun → begun ≡ [] → AreRows limit rows done
rows_end limit rows done begun r e = record {
  spelt = subst (Spells (flat_map said rows)) (ap (λ b. numbers done ++ map lit_number b) e ∙ append-nil (numbers done)) r.spelt;
  allowed = r.done_allowed;
}

pub rows_open : (limit : Option ℕ) (rows : List Text) (done : List (List Lit)) (begun : List Lit) → IsRead limit (flat_map said rows) done begun → 0 < length begun → (cs : List (List Lit)) → AreRows limit rows cs → ⊥
rows_open limit rows done begun r l cs a =
    let p = numbers_front cs done (map lit_number begun) (spells_same (flat_map said rows) (numbers cs) (numbers done ++ map lit_number begun) a.spelt r.spelt) in
    let e = none_begun begun p.0 p.2 in
    omega (arith, ap length e)

pub rows_stuck : (limit : Option ℕ) (rows : List Text) (n : ℕ) → IsStuck limit (flat_map said (take n rows)) → (cs : List (List Lit)) → AreRows limit rows cs → ⊥
rows_stuck limit rows n s cs a = s.never (flat_map said (drop n rows)) cs a.allowed
    (subst (λ x. Spells x (numbers cs)) (ap (flat_map said) (sym (take-append-drop n rows)) ∙ flat_map-append said (take n rows) (drop n rows)) a.spelt)

pub rows_same : (limit : Option ℕ) (rows : List Text) (cs ds : List (List Lit)) → AreRows limit rows cs → AreRows limit rows ds → cs ≡ ds
rows_same limit rows cs ds a b = numbers_same cs ds (spells_same (flat_map said rows) (numbers cs) (numbers ds) a.spelt b.spelt)

pub ruleset steps = (read_lit, read_end, stuck_word, stuck_lit)

pub ruleset loops = (stuck_more)

pub ruleset ends = (read_begins, rows_end, rows_open, rows_stuck)
