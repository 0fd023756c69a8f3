use Rattle.job_picture.proofs.PlainTexts.{escaped_is_plain, shortened_is_plain}
use Rattle.job_picture.proofs.laws.a_text_in_xml_is_no_markup.Goals as goal

pub returns-clause-escaped : goal.returns-clause-escaped
returns-clause-escaped c = escaped_is_plain

pub returns-clause-shortened : goal.returns-clause-shortened
returns-clause-shortened c = shortened_is_plain
