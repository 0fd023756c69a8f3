use Rattle.std.proofs.Common.{◌∙◌, ap, is_some, option_map, sym}
use Rattle.jdf_words.proofs.Numbers.{is_some-map}
use Rattle.jdf_words.proofs.reading.file_in.Goals as goal

pub unwrap-requires : goal.unwrap-requires
unwrap-requires c = is_some-map (λ file. file.now) c.text_in.result ∙ ap is_some c.text_in.ensures ∙ c.requires

pub returns : goal.returns
returns c = sym c.text_in.ensures ∙ ap (option_map (λ file. file.now)) c.unwrap.ensures
