use Rattle.grant_values.proofs.WordPlaces.{words-bytes, length-bytes, length-words}
use Rattle.grant_values.proofs.laws.words_in_bytes.Goals as goal

pub returns : goal.returns
returns c = record { back = words-bytes; size = length-bytes; count = length-words }
