use Rattle.nf_state.proofs.OneTranslation.{translated_once}
use Rattle.nf_state.proofs.laws.a_packet_has_one_translation.Goals as goal

pub returns : goal.returns
returns c parameters before after later bytes x y v w fair =
    translated_once parameters bytes x y v w before after later fair
