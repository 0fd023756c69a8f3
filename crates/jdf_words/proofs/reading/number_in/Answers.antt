use Rattle.std.proofs.Common.{}
use Rattle.std.specs.Str.Parse.{ExplainsUnsignedError, HasUnsignedDigitsIfOk, ParsesUnsigned}
use Rattle.clap.specs.Words.{found_of}
use Rattle.jdf_words.proofs.Numbers.{found_number}
use Rattle.jdf_words.proofs.reading.number_in.Goals as goal

pub returns : goal.returns
returns c =
    found_number _ (λ t r. ParsesUnsigned 64 10 t r × ExplainsUnsignedError 10 t r × HasUnsignedDigitsIfOk t r) (found_of c.args.found.now)
    c.args.id.now c.get_one.result c.get_one.ensures.none c.get_one.ensures.value (λ t r gives. gives.0)
