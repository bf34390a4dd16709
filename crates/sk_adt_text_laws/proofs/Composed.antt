-- The runs of a tagged program that plain tokens mean keep to variants.
use Rattle.sk_adt_record_laws.proofs.Calling.{tagged_runs}
use Rattle.sk_adt_text_laws.specs.Lowered.{LoweredRunsKeepVariants}
use Rattle.sk_adt_text_laws.proofs.Tags.{tags}
use Rattle.sk_adt_text_laws.proofs.Rules.{rules}

pub runs : LoweredRunsKeepVariants
runs tokens form tree bounds prog h tagged f plain args =
    tagged_runs form.types prog f args bounds (record { typed = rules tokens form tree bounds prog h; tags = tags tokens form tree bounds prog h; tagged = tagged; plain = plain })
