-- Tops and bodies, one behind another.
use Rattle.std.proofs.Common.{◌≡◌, ℕ, List, [], ◌∷◌, ◌++◌, refl, sym, ap, ◌∙◌, append_assoc}
use Rattle.std.specs.Prelude.{map}
use Rattle.std.proofs.lemmas.List.{append-nil}
use Rattle.sk_tree.specs.declared.item.Item.{Item}
use Rattle.sk_tree.specs.declared.item.Item.TheVariants as item
use Rattle.sk_prog.specs.declared.prog.StructDef.{StructDef}
use Rattle.sk_types_rules.specs.Scope.{Signature, Top}
use Rattle.sk_types_laws.specs.declared.env.Heading.{Heading}
use Rattle.sk_types_laws.specs.Envs.{signature}
use Rattle.sk_types_laws.specs.Whole.{no_top, named_top}
use Rattle.sk_types.specs.Tops.{joined}
use Rattle.sk_types_names.proofs.Places.{split_at}

pub append_none : {X : Type 0} (xs : List X) → xs ++ [] ≡ xs
append_none xs = append-nil xs

pub map_added : (hs : List Heading) (h : Heading) → map signature (hs ++ h ∷ []) ≡ map signature hs ++ signature h ∷ []
map_added [] h = refl
map_added (g ∷ hs) h = ap (λ rest. signature g ∷ rest) (map_added hs h)

joined_assoc : (a b c : Top) → joined (joined a b) c ≡ joined a (joined b c)
joined_assoc a b c = λ i. record { structs = append_assoc a.structs b.structs c.structs i; consts = append_assoc a.consts b.consts c.consts i; funs = append_assoc a.funs b.funs c.funs i }

pub joined_none : (a : Top) → joined a no_top ≡ a
joined_none a = λ i. record { structs = append-nil a.structs i; consts = append-nil a.consts i; funs = append-nil a.funs i }

named_split : (x : Item) (xs : List Item) → named_top (x ∷ xs) ≡ joined (named_top (x ∷ [])) (named_top xs)
named_split (item.Pragma word text) xs = refl
named_split (item.Struct x fields) xs = refl
named_split (item.Const x e) xs = refl
named_split (item.Fun g) xs = refl

pub named_next : (a : Top) (x : Item) (xs : List Item) → joined a (named_top (x ∷ xs)) ≡ joined (joined a (named_top (x ∷ []))) (named_top xs)
named_next a x xs = ap (joined a) (named_split x xs) ∙ sym (joined_assoc a (named_top (x ∷ [])) (named_top xs))

-- one more name
pub one_more : {X : Type 0} (xs : List X) (x : X) (rest : List X) → xs ++ x ∷ rest ≡ (xs ++ x ∷ []) ++ rest
one_more xs x rest = sym (append_assoc xs (x ∷ []) rest)

names_seen : (hs : List Heading) → map (λ (h : Heading). h.name) hs ≡ map (λ (s : Signature). s.name) (map signature hs)
names_seen [] = refl
names_seen (h ∷ hs) = ap (λ rest. h.name ∷ rest) (names_seen hs)

-- the names of functions behind others
all_names : (a b : List (List ℕ)) (hs : List Heading) → (a ++ b) ++ map (λ (h : Heading). h.name) hs ≡ a ++ (b ++ map (λ (s : Signature). s.name) (map signature hs))
all_names a b hs = append_assoc a b (map (λ (h : Heading). h.name) hs) ∙ ap (λ rest. a ++ (b ++ rest)) (names_seen hs)

pub map_same : (xs : List (List ℕ)) → map (λ (x : List ℕ). x) xs ≡ xs
map_same [] = refl
map_same (x ∷ xs) = ap (λ rest. x ∷ rest) (map_same xs)

-- the names of structs, then of constants, then of functions
pub all_made : (ss ss' : List StructDef) (cs cs' : List (List ℕ)) (hs hs' : List Heading) (none a b made : List (List ℕ)) → ss' ≡ ss → cs' ≡ cs → hs' ≡ hs → none ≡ [] → a ≡ none ++ map (λ (d : StructDef). d.name) ss' → b ≡ a ++ map (λ (x : List ℕ). x) cs' → made ≡ b ++ map (λ (h : Heading). h.name) hs' → made ≡ map (λ (d : StructDef). d.name) ss ++ (cs ++ map (λ (s : Signature). s.name) (map signature hs))
all_made ss ss' cs cs' hs hs' none a b made es ec eh en ea eb em =
    em
    ∙ ap (λ (l : List Heading). b ++ map (λ (h : Heading). h.name) l) eh
    ∙ ap (λ l. l ++ map (λ (h : Heading). h.name) hs) (eb ∙ ap (λ l. a ++ l) (map_same cs' ∙ ec) ∙ ap (λ l. l ++ cs) (ea ∙ ap (λ (l : List StructDef). none ++ map (λ (d : StructDef). d.name) l) es ∙ ap (λ l. l ++ map (λ (d : StructDef). d.name) ss) en))
    ∙ all_names (map (λ (d : StructDef). d.name) ss) cs hs

pub ruleset adding = (append_none, map_added)

pub ruleset rows = (split_at, one_more)

pub ruleset defs = (append_none, one_more)

pub ruleset naming = (split_at, named_next, joined_none)
