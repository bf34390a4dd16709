-- One more item at the top, and one more body: what it and those behind it become is what those behind it become.
use Rattle.std.proofs.Common.{◌≡◌, ℕ, ◌+◌, ◌<◌, List, [], ◌∷◌, ◌++◌, length, drop, get_or, Option, Some, None, Err, refl, sym, ap, ◌∙◌, append_assoc}
use Rattle.std.specs.Prelude.{map}
use Rattle.std.proofs.lemmas.List.{append-nil}
use Rattle.sk_base.specs.declared.bounds.Bounds.{Bounds}
use Rattle.sk_tree.specs.declared.expr.Expr.{Expr}
use Rattle.sk_tree.specs.declared.item.Field.{Field}
use Rattle.sk_tree.specs.declared.item.FunItem.{FunItem}
use Rattle.sk_tree.specs.declared.item.Item.{Item}
use Rattle.sk_tree.specs.declared.item.Item.TheVariants as item
use Rattle.sk_prog.specs.declared.prog.StructDef.{StructDef}
use Rattle.sk_prog.specs.declared.prog.ConstDef.{ConstDef}
use Rattle.sk_prog.specs.declared.prog.Fun.{Fun}
use Rattle.sk_types_rules.specs.Rules.{◌>>=◌}
use Rattle.sk_types_rules.specs.Scope.{Signature, Top, Known}
use Rattle.sk_types_rules.specs.Constants.{constant_number}
use Rattle.sk_types_laws.specs.declared.fault.Typing.{Typing}
use Rattle.sk_types_laws.specs.declared.fault.Typing.TheVariants.{Fault, Memory}
use Rattle.sk_types_laws.specs.declared.env.Constant.{Constant}
use Rattle.sk_types_laws.specs.declared.env.Heading.{Heading}
use Rattle.sk_types_laws.specs.Envs.{known, signature}
use Rattle.sk_types_laws.specs.Whole.{Bodies, no_top, with_struct, with_const, with_fun, context_in, struct_of, heading_of, const_of, fun_of, typed_top, bodies_of}
use Rattle.sk_types_names.specs.Gives.{Fails}
use Rattle.sk_types.specs.Tops.{joined, joined_bodies, Steps, Knows}
use Rattle.sk_types.proofs.TopLaws.{map_added, joined_none}
use Rattle.sk_types_names.proofs.Places.{split_at}

pub known_added : (ks : List Constant) (k : Constant) → map known (ks ++ k ∷ []) ≡ map known ks ++ known k ∷ []
known_added [] k = refl
known_added (c ∷ ks) k = ap (λ rest. known c ∷ rest) (known_added ks k)

pub pushed : {X : Type 0} (xs xs' : List X) (x y : X) → xs' ≡ xs ++ y ∷ [] → Some x ≡ Some y → xs' ≡ xs ++ x ∷ []
pushed xs xs' x y h k = let e : x ≡ y = cc in h ∙ ap (λ z. xs ++ z ∷ []) (sym e)

-- what items become behind a top, and behind bodies

abbrev pub tops_behind : Bounds → Top → List Known → Top → List Item → Option Top
tops_behind bounds top ks a is = typed_top bounds top ks is >>= λ rest. Some (joined a rest)

abbrev pub bodies_behind : Bounds → Top → List Known → Bodies → List Item → Option Bodies
bodies_behind bounds top ks a is = bodies_of bounds top ks is >>= λ rest. Some (joined_bodies a rest)

-- Tops

struct_after : (a : Top) (d : StructDef) (o : Option Top) → ((o >>= λ r. Some (with_struct d r)) >>= λ r. Some (joined a r)) ≡ (o >>= λ r. Some (joined (record { structs = a.structs ++ d ∷ []; consts = a.consts; funs = a.funs }) r))
struct_after a d None = refl
struct_after a d (Some r) = ap (λ s. Some (record { structs = s; consts = a.consts ++ r.consts; funs = a.funs ++ r.funs })) (sym (append_assoc a.structs (d ∷ []) r.structs))

const_after : (a : Top) (x : List ℕ) (o : Option Top) → ((o >>= λ r. Some (with_const x r)) >>= λ r. Some (joined a r)) ≡ (o >>= λ r. Some (joined (record { structs = a.structs; consts = a.consts ++ x ∷ []; funs = a.funs }) r))
const_after a x None = refl
const_after a x (Some r) = ap (λ s. Some (record { structs = a.structs ++ r.structs; consts = s; funs = a.funs ++ r.funs })) (sym (append_assoc a.consts (x ∷ []) r.consts))

fun_after : (a : Top) (s : Signature) (o : Option Top) → ((o >>= λ r. Some (with_fun s r)) >>= λ r. Some (joined a r)) ≡ (o >>= λ r. Some (joined (record { structs = a.structs; consts = a.consts; funs = a.funs ++ s ∷ [] }) r))
fun_after a s None = refl
fun_after a s (Some r) = ap (λ t. Some (record { structs = a.structs ++ r.structs; consts = a.consts ++ r.consts; funs = t })) (sym (append_assoc a.funs (s ∷ []) r.funs))

pub struct_step : (bounds : Bounds) (top : Top) (ks : List Known) (ss : List StructDef) (cs : List (List ℕ)) (hs : List Heading) (ss' : List StructDef) (x : List ℕ) (ys : List Field) (d : StructDef) → struct_of (context_in bounds top ks) x ys ≡ Some d → ss' ≡ ss ++ d ∷ [] → (is : List Item) → tops_behind bounds top ks (record { structs = ss; consts = cs; funs = map signature hs }) (item.Struct x ys ∷ is) ≡ tops_behind bounds top ks (record { structs = ss'; consts = cs; funs = map signature hs }) is
struct_step bounds top ks ss cs hs ss' x ys d h e is =
    ap (λ o. (o >>= λ d. typed_top bounds top ks is >>= λ top. Some (with_struct d top)) >>= λ rest. Some (joined (record { structs = ss; consts = cs; funs = map signature hs }) rest)) h
    ∙ struct_after (record { structs = ss; consts = cs; funs = map signature hs }) d (typed_top bounds top ks is)
    ∙ ap (λ s. tops_behind bounds top ks (record { structs = s; consts = cs; funs = map signature hs }) is) (sym e)

pub const_step : (bounds : Bounds) (top : Top) (ks ks' : List Known) (ss : List StructDef) (cs : List (List ℕ)) (hs : List Heading) (cs' : List (List ℕ)) (x : List ℕ) (e : Expr) (n : ℕ) → constant_number (context_in bounds top ks) [] e ≡ Some n → ks' ≡ ks ++ record { name = x; number = n } ∷ [] → cs' ≡ cs ++ x ∷ [] → (is : List Item) → tops_behind bounds top ks (record { structs = ss; consts = cs; funs = map signature hs }) (item.Const x e ∷ is) ≡ tops_behind bounds top ks' (record { structs = ss; consts = cs'; funs = map signature hs }) is
const_step bounds top ks ks' ss cs hs cs' x e n h k c is =
    ap (λ o. (o >>= λ n. typed_top bounds top (ks ++ record { name = x; number = n } ∷ []) is >>= λ top. Some (with_const x top)) >>= λ rest. Some (joined (record { structs = ss; consts = cs; funs = map signature hs }) rest)) h
    ∙ const_after (record { structs = ss; consts = cs; funs = map signature hs }) x (typed_top bounds top (ks ++ record { name = x; number = n } ∷ []) is)
    ∙ ap (λ s. tops_behind bounds top (ks ++ record { name = x; number = n } ∷ []) (record { structs = ss; consts = s; funs = map signature hs }) is) (sym c)
    ∙ ap (λ l. tops_behind bounds top l (record { structs = ss; consts = cs'; funs = map signature hs }) is) (sym k)

pub fun_step : (bounds : Bounds) (top : Top) (ks : List Known) (ss : List StructDef) (cs : List (List ℕ)) (hs hs' : List Heading) (g : FunItem) (s : Heading) → heading_of (context_in bounds top ks) g ≡ Some (signature s) → hs' ≡ hs ++ s ∷ [] → (is : List Item) → tops_behind bounds top ks (record { structs = ss; consts = cs; funs = map signature hs }) (item.Fun g ∷ is) ≡ tops_behind bounds top ks (record { structs = ss; consts = cs; funs = map signature hs' }) is
fun_step bounds top ks ss cs hs hs' g s h e is =
    ap (λ o. (o >>= λ s. typed_top bounds top ks is >>= λ top. Some (with_fun s top)) >>= λ rest. Some (joined (record { structs = ss; consts = cs; funs = map signature hs }) rest)) h
    ∙ fun_after (record { structs = ss; consts = cs; funs = map signature hs }) (signature s) (typed_top bounds top ks is)
    ∙ ap (λ t. tops_behind bounds top ks (record { structs = ss; consts = cs; funs = t }) is) (sym (map_added hs s))
    ∙ ap (λ l. tops_behind bounds top ks (record { structs = ss; consts = cs; funs = map signature l }) is) (sym e)

-- what is refused

pub struct_fails : (bounds : Bounds) (top : Top) (ks : List Known) (a : Top) (new : List Item → Option Top) (x : List ℕ) (ys : List Field) (why : Typing) → Fails why (struct_of (context_in bounds top ks) x ys) → Steps (Err why) (tops_behind bounds top ks a) new (item.Struct x ys)
struct_fails bounds top ks a new x ys Memory h = tt
struct_fails bounds top ks a new x ys (Fault f) h = λ is. ap (λ o. (o >>= λ d. typed_top bounds top ks is >>= λ top. Some (with_struct d top)) >>= λ rest. Some (joined a rest)) h

pub const_fails : (bounds : Bounds) (top : Top) (ks : List Known) (a : Top) (new : List Item → Option Top) (x : List ℕ) (e : Expr) (why : Typing) → Fails why (constant_number (context_in bounds top ks) [] e) → Steps (Err why) (tops_behind bounds top ks a) new (item.Const x e)
const_fails bounds top ks a new x e Memory h = tt
const_fails bounds top ks a new x e (Fault f) h = λ is. ap (λ o. (o >>= λ n. typed_top bounds top (ks ++ record { name = x; number = n } ∷ []) is >>= λ top. Some (with_const x top)) >>= λ rest. Some (joined a rest)) h

pub fun_fails : (bounds : Bounds) (top : Top) (ks : List Known) (a : Top) (new : List Item → Option Top) (g : FunItem) (why : Typing) → Fails why (heading_of (context_in bounds top ks) g) → Steps (Err why) (tops_behind bounds top ks a) new (item.Fun g)
fun_fails bounds top ks a new g Memory h = tt
fun_fails bounds top ks a new g (Fault f) h = λ is. ap (λ o. (o >>= λ s. typed_top bounds top ks is >>= λ top. Some (with_fun s top)) >>= λ rest. Some (joined a rest)) h

-- Bodies

body_const_after : (a : Bodies) (c : ConstDef) (o : Option Bodies) → ((o >>= λ (b : Bodies). Some (record { consts = c ∷ b.consts; funs = b.funs })) >>= λ r. Some (joined_bodies a r)) ≡ (o >>= λ r. Some (joined_bodies (record { consts = a.consts ++ c ∷ []; funs = a.funs }) r))
body_const_after a c None = refl
body_const_after a c (Some r) = ap (λ s. Some (record { consts = s; funs = a.funs ++ r.funs })) (sym (append_assoc a.consts (c ∷ []) r.consts))

body_fun_after : (a : Bodies) (f : Fun) (o : Option Bodies) → ((o >>= λ (b : Bodies). Some (record { consts = b.consts; funs = f ∷ b.funs })) >>= λ r. Some (joined_bodies a r)) ≡ (o >>= λ r. Some (joined_bodies (record { consts = a.consts; funs = a.funs ++ f ∷ [] }) r))
body_fun_after a f None = refl
body_fun_after a f (Some r) = ap (λ s. Some (record { consts = a.consts ++ r.consts; funs = s })) (sym (append_assoc a.funs (f ∷ []) r.funs))

pub body_const_step : (bounds : Bounds) (top : Top) (ks ks' : List Known) (cs cs' : List ConstDef) (fs : List Fun) (x : List ℕ) (e : Expr) (n : ℕ) (p : ConstDef) → constant_number (context_in bounds top ks) [] e ≡ Some n → const_of (context_in bounds top ks) x e n ≡ Some p → ks' ≡ ks ++ record { name = x; number = n } ∷ [] → cs' ≡ cs ++ p ∷ [] → (is : List Item) → bodies_behind bounds top ks (record { consts = cs; funs = fs }) (item.Const x e ∷ is) ≡ bodies_behind bounds top ks' (record { consts = cs'; funs = fs }) is
body_const_step bounds top ks ks' cs cs' fs x e n p h m k c is =
    ap (λ o. (o >>= λ n. const_of (context_in bounds top ks) x e n >>= λ p. bodies_of bounds top (ks ++ record { name = x; number = n } ∷ []) is >>= λ (b : Bodies). Some (record { consts = p ∷ b.consts; funs = b.funs })) >>= λ rest. Some (joined_bodies (record { consts = cs; funs = fs }) rest)) h
    ∙ ap (λ o. (o >>= λ p. bodies_of bounds top (ks ++ record { name = x; number = n } ∷ []) is >>= λ (b : Bodies). Some (record { consts = p ∷ b.consts; funs = b.funs })) >>= λ rest. Some (joined_bodies (record { consts = cs; funs = fs }) rest)) m
    ∙ body_const_after (record { consts = cs; funs = fs }) p (bodies_of bounds top (ks ++ record { name = x; number = n } ∷ []) is)
    ∙ ap (λ s. bodies_behind bounds top (ks ++ record { name = x; number = n } ∷ []) (record { consts = s; funs = fs }) is) (sym c)
    ∙ ap (λ l. bodies_behind bounds top l (record { consts = cs'; funs = fs }) is) (sym k)

pub body_fun_step : (bounds : Bounds) (top : Top) (ks : List Known) (cs : List ConstDef) (fs fs' : List Fun) (g : FunItem) (s : Signature) (f : Fun) → heading_of (context_in bounds top ks) g ≡ Some s → fun_of (context_in bounds top ks) g s ≡ Some f → fs' ≡ fs ++ f ∷ [] → (is : List Item) → bodies_behind bounds top ks (record { consts = cs; funs = fs }) (item.Fun g ∷ is) ≡ bodies_behind bounds top ks (record { consts = cs; funs = fs' }) is
body_fun_step bounds top ks cs fs fs' g s f h m e is =
    ap (λ o. (o >>= λ s. fun_of (context_in bounds top ks) g s >>= λ f. bodies_of bounds top ks is >>= λ (b : Bodies). Some (record { consts = b.consts; funs = f ∷ b.funs })) >>= λ rest. Some (joined_bodies (record { consts = cs; funs = fs }) rest)) h
    ∙ ap (λ o. (o >>= λ f. bodies_of bounds top ks is >>= λ (b : Bodies). Some (record { consts = b.consts; funs = f ∷ b.funs })) >>= λ rest. Some (joined_bodies (record { consts = cs; funs = fs }) rest)) m
    ∙ body_fun_after (record { consts = cs; funs = fs }) f (bodies_of bounds top ks is)
    ∙ ap (λ l. bodies_behind bounds top ks (record { consts = cs; funs = l }) is) (sym e)

-- what is refused

pub number_fails : (bounds : Bounds) (top : Top) (ks : List Known) (a : Bodies) (new : List Item → Option Bodies) (x : List ℕ) (e : Expr) (why : Typing) → Fails why (constant_number (context_in bounds top ks) [] e) → Steps (Err why) (bodies_behind bounds top ks a) new (item.Const x e)
number_fails bounds top ks a new x e Memory h = tt
number_fails bounds top ks a new x e (Fault f) h = λ is. ap (λ o. (o >>= λ n. const_of (context_in bounds top ks) x e n >>= λ p. bodies_of bounds top (ks ++ record { name = x; number = n } ∷ []) is >>= λ (b : Bodies). Some (record { consts = p ∷ b.consts; funs = b.funs })) >>= λ rest. Some (joined_bodies a rest)) h

pub value_fails : (bounds : Bounds) (top : Top) (ks : List Known) (a : Bodies) (new : List Item → Option Bodies) (x : List ℕ) (e : Expr) (n : ℕ) (why : Typing) → constant_number (context_in bounds top ks) [] e ≡ Some n → Fails why (const_of (context_in bounds top ks) x e n) → Steps (Err why) (bodies_behind bounds top ks a) new (item.Const x e)
value_fails bounds top ks a new x e n Memory h m = tt
value_fails bounds top ks a new x e n (Fault f) h m = λ is.
    ap (λ o. (o >>= λ n. const_of (context_in bounds top ks) x e n >>= λ p. bodies_of bounds top (ks ++ record { name = x; number = n } ∷ []) is >>= λ (b : Bodies). Some (record { consts = p ∷ b.consts; funs = b.funs })) >>= λ rest. Some (joined_bodies a rest)) h
    ∙ ap (λ o. (o >>= λ p. bodies_of bounds top (ks ++ record { name = x; number = n } ∷ []) is >>= λ (b : Bodies). Some (record { consts = p ∷ b.consts; funs = b.funs })) >>= λ rest. Some (joined_bodies a rest)) m

pub heading_fails : (bounds : Bounds) (top : Top) (ks : List Known) (a : Bodies) (new : List Item → Option Bodies) (g : FunItem) (why : Typing) → Fails why (heading_of (context_in bounds top ks) g) → Steps (Err why) (bodies_behind bounds top ks a) new (item.Fun g)
heading_fails bounds top ks a new g Memory h = tt
heading_fails bounds top ks a new g (Fault f) h = λ is. ap (λ o. (o >>= λ s. fun_of (context_in bounds top ks) g s >>= λ f. bodies_of bounds top ks is >>= λ (b : Bodies). Some (record { consts = b.consts; funs = f ∷ b.funs })) >>= λ rest. Some (joined_bodies a rest)) h

pub body_fails : (bounds : Bounds) (top : Top) (ks : List Known) (a : Bodies) (new : List Item → Option Bodies) (g : FunItem) (s : Signature) (why : Typing) → heading_of (context_in bounds top ks) g ≡ Some s → Fails why (fun_of (context_in bounds top ks) g s) → Steps (Err why) (bodies_behind bounds top ks a) new (item.Fun g)
body_fails bounds top ks a new g s Memory h m = tt
body_fails bounds top ks a new g s (Fault f) h m = λ is.
    ap (λ o. (o >>= λ s. fun_of (context_in bounds top ks) g s >>= λ f. bodies_of bounds top ks is >>= λ (b : Bodies). Some (record { consts = b.consts; funs = f ∷ b.funs })) >>= λ rest. Some (joined_bodies a rest)) h
    ∙ ap (λ o. (o >>= λ f. bodies_of bounds top ks is >>= λ (b : Bodies). Some (record { consts = b.consts; funs = f ∷ b.funs })) >>= λ rest. Some (joined_bodies a rest)) m

-- Steps that memory alone may stop

pub memory_stops : {A B : Type 0} (why : Typing) (y : B) (old new : List Item → Option A) (x : Item) → Fails why (Some y) → Steps (Err why) old new x
memory_stops Memory y old new x h = tt
memory_stops (Fault f) y old new x h = cc

pub knowing_stops : {A : Type 0} (why : Typing) (ks ks' : List Known) (y : List ℕ) (n : ℕ) (old new : List Item → Option A) (x : Item) → Knows (Err why) ks ks' y n → Steps (Err why) old new x
knowing_stops Memory ks ks' y n old new x h = tt
knowing_stops (Fault f) ks ks' y n old new x h = absurd h

-- Items in order

pub turn : {A : Type 0} (o : Option A) (old new : List Item → Option A) (xs : List Item) (i : ℕ) (x : Item) → o ≡ old (drop i xs) → i < length xs → x ≡ get_or xs i x → ((is : List Item) → old (x ∷ is) ≡ new is) → o ≡ new (drop (i + 1) xs)
turn o old new xs i x e below is h = e ∙ ap old (split_at xs i x below is) ∙ h (drop (i + 1) xs)

pub turn_fails : {A : Type 0} (why : Typing) (o : Option A) (old new : List Item → Option A) (xs : List Item) (i : ℕ) (x : Item) → o ≡ old (drop i xs) → i < length xs → x ≡ get_or xs i x → Steps (Err why) old new x → Fails why o
turn_fails Memory o old new xs i x e below is h = tt
turn_fails (Fault f) o old new xs i x e below is h = e ∙ ap old (split_at xs i x below is) ∙ h (drop (i + 1) xs)

-- Whole lists

-- behind nothing stands what stands
pub joined_first : (o : Option Top) → (o >>= λ rest. Some (joined no_top rest)) ≡ o
joined_first None = refl
joined_first (Some r) = refl

pub bodies_first : (o : Option Bodies) → (o >>= λ rest. Some (joined_bodies (record { consts = []; funs = [] }) rest)) ≡ o
bodies_first None = refl
bodies_first (Some r) = refl

pub bodies_last : (a : Bodies) → joined_bodies a (record { consts = []; funs = [] }) ≡ a
bodies_last a = λ i. record { consts = append-nil a.consts i; funs = append-nil a.funs i }

pub ruleset steps = (split_at, joined_first, joined_none, bodies_first, bodies_last)
