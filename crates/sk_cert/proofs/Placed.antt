-- Where a text departs, by the number of bytes that are left.
use Rattle.std.proofs.Common.{◌≡◌, ◌∙◌, ◌≤◌, ◌+◌, ◌-◌, ◌∷◌, ℕ, suc, Bool, true, false, List, [], cond, eqb, length, take, drop, sym, ap, subst, arith, length-append}
use Rattle.std.specs.Prelude.{Err}
use Rattle.std.proofs.lemmas.List.{take_at, drop_at}
use Rattle.sk_cert.specs.declared.fault.CertFault.TheVariants as fault
use Rattle.sk_cert.specs.Readers.{whole}
use Rattle.sk_cert.specs.Departing.{DepartsAt, IsFault, line_feeds}
use Rattle.sk_cert.specs.Steps.{first_line, is_other_version}
use Rattle.sk_cert.proofs.Departure.{whole_departs}
use Rattle.sk_cert.proofs.OtherVersion.{other_is, other_by}

pub left_within : (text : List ℕ) (n : ℕ) → whole text ≡ Err n → n ≤ length text
left_within text n h =
    let d = whole_departs text n h in
    let s : length text ≡ length d.front + length d.left = ap length d.departs.is ∙ length-append d.front d.left in
    let e : n ≡ length d.left = d.size in
    omega arith

pub departs_at : (text : List ℕ) (n line : ℕ) → whole text ≡ Err n → line ≡ line_feeds (take (length text - n) text) + 1 → DepartsAt text line (drop (length text - n) text)
departs_at text n line h k =
    let d = whole_departs text n h in
    let s : length text ≡ length d.front + length d.left = ap length d.departs.is ∙ length-append d.front d.left in
    let e : n ≡ length d.left = d.size in
    let f : length d.front ≡ length text - n = omega arith in
    let front : take (length text - n) text ≡ d.front = ap (take (length text - n)) d.departs.is ∙ take_at d.front d.left (length text - n) f in
    let left : drop (length text - n) text ≡ d.left = ap (drop (length text - n)) d.departs.is ∙ drop_at d.front d.left (length text - n) f in
    subst (DepartsAt text line) (sym left) (record { front = d.front; departs = d.departs; number = k ∙ ap (λ t. line_feeds t + 1) front })

pub version_there : (text : List ℕ) (n line : ℕ) → whole text ≡ Err n → line ≡ line_feeds (take (length text - n) text) + 1 → is_other_version (first_line (drop (length text - n) text)) ≡ true → IsFault text (fault.Version line)
version_there text n line h k v = (drop (length text - n) text, departs_at text n line h k, other_is (drop (length text - n) text) v)

pub form_there : (text : List ℕ) (n line : ℕ) → whole text ≡ Err n → line ≡ line_feeds (take (length text - n) text) + 1 → is_other_version (first_line (drop (length text - n) text)) ≡ false → IsFault text (fault.NoForm line)
form_there text n line h k v = (drop (length text - n) text, departs_at text n line h k, λ o. clash (is_other_version (first_line (drop (length text - n) text))) (other_by (drop (length text - n) text) o) v)
  where
    clash : (t : Bool) → t ≡ true → t ≡ false → ⊥
    clash t e k = let c : true ≡ false = sym e ∙ k in cc

-- there are no more line feeds than bytes
pub feeds_within : (bs : List ℕ) → line_feeds bs ≤ length bs
feeds_within [] = omega arith
feeds_within (b ∷ bs) = from (eqb b 10) (feeds_within bs)
  where
    from : (t : Bool) → line_feeds bs ≤ length bs → cond t (line_feeds bs + 1) (line_feeds bs) ≤ suc (length bs)
    from true h = omega arith
    from false h = omega arith
