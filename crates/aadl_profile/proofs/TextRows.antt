-- The worked texts, computed.
use Rattle.std.proofs.Common.{refl}
use Rattle.std.specs.Fmt.{digits}
use Rattle.aadl_profile.specs.WorkedTexts.{WorkedTexts}

pub worked_texts : WorkedTexts
unfolding digits
worked_texts = record {
  a_record = refl;
  a_channel = refl;
  an_output = refl;
  a_handler = refl;
  a_signal = refl;
  an_init = refl;
  no_part = refl;
  depths = refl;
  clock = refl;
}
