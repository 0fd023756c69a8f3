use Rattle.std.proofs.Common.{refl}
use Rattle.shop_day.proofs.stepping.answer_outcome.Goals as goal

pub returns-in_ok-output_of-in-Some : goal.returns-in_ok-output_of-in-Some
returns-in_ok-output_of-in-Some g c = (
  refl,
  record {
    reply = c.in-Some.reply;
    is = c.in-Some.ensures.some;
    text = c.in_ok-output_of-in-Some.ensures.text;
    status = c.in_ok-output_of-in-Some.ensures.status;
  },
)
