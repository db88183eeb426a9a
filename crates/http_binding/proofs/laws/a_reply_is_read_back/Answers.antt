use Rattle.http_binding.proofs.BackLemmas.{reply_sound, read_back}
use Rattle.http_binding.proofs.laws.a_reply_is_read_back.Goals as goal

pub returns : goal.returns
returns c = λ reply close h. (reply_sound reply close h, read_back reply close h)
