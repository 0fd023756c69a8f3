-- What agrees: a step of the controllers, and the step of the shop that they show.
use Rattle.controller.specs.declared.message.Message.{Message}
use Rattle.world.specs.Controllers.{Controllers}
use Rattle.world.specs.Running as running
use Rattle.plain_shop.specs.Shop.{PlainState}
use Rattle.plain_shop.specs.Steps.{Tag}
use Rattle.world.specs.Showing.{shop_shown, tag_of}
use Rattle.controller.specs.Step.{Step}
use Rattle.plain_shop.specs.Step.{StepOrWord}

-- they reply the same, send the same, and lead to the same
abbrev pub Agrees : Step Controllers Message → Step PlainState Tag → Type 0
Agrees moved plain = running.Agrees shop_shown tag_of moved plain

-- they agree, or neither is made and the word is the same
abbrev pub StepsAgree : StepOrWord Controllers Message → StepOrWord PlainState Tag → Type 0
StepsAgree = running.StepsAgree shop_shown tag_of
