use Rattle.spawn.proofs.SoundPart.{part_is_sound}
use Rattle.spawn.proofs.laws.the_part_of_a_good_record_is_sound.Goals as goal

pub returns : goal.returns
returns c = part_is_sound
