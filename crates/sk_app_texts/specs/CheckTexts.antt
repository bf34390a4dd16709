-- What `check` writes: that the certificate is accepted, or rejected, with the number of the first reason.
use Rattle.std.specs.Prelude.{ℕ, List, ◌++◌, codes}
use Rattle.std.specs.Fmt.{decimal}

-- Why a certificate is rejected. These are asked in this order.
pub data Reason : Type 0 where
  -- it has not as many values as the sketch has sites, or one is not below its site's size
  Values : Reason
  -- an input is none of an obligation, or stands twice
  Inputs : Reason
  -- a refutation of an upper part does not hold, or there are not as many of these as obligations
  Upper : Reason
  -- the refutation of the lower part does not hold
  Lower : Reason
  -- its text is not the layout of the filling
  Text : Reason
  -- a formula is not that of its query
  Formula : Reason

abbrev pub reason_number : Reason → ℕ
reason_number Values = 1
reason_number Inputs = 2
reason_number Upper = 3
reason_number Lower = 4
reason_number Text = 5
reason_number Formula = 6

abbrev pub accepted_text : List ℕ
accepted_text = codes "accepted\n"

abbrev pub rejected_text : Reason → List ℕ
rejected_text r = codes "rejected " ++ decimal (reason_number r) ++ codes "\n"
