-- The bits past the width of a word.
use Rattle.std.proofs.Common.{◌≡◌, ◌≤◌, pos, ℕ, zero, suc, ◌-◌, ◌*◌, ◌^◌, ◌%◌, arith, ap}
use Rattle.std.proofs.Math.Nat.{mod-mod}
use Rattle.sk_base.specs.Word.{wrapped, half, signed}

pub power_half : (w : ℕ) → 1 ≤ w → 2 ^ w ≡ 2 * half w
power_half zero h = elim h [ ]
power_half (suc k) h =
    let e : suc k - 1 ≡ k = omega arith in
    rw e (omega arith)

-- the bits past the width make no difference
pub wrapped-rem : (w n : ℕ) → wrapped w (pos (n % (2 * half w))) ≡ wrapped w (pos n)
unfolding wrapped
wrapped-rem w n = ap (signed w) (mod-mod n (2 * half w))
