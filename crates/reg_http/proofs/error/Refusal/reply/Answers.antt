use Rattle.std.proofs.Common.{refl}
use Rattle.std.specs.Fmt.{digits}
use Rattle.reg_http.specs.Replies.{phrase_of}
use Rattle.reg_http.proofs.error.Refusal.reply.Goals as goal

pub returns-in-BadHead : goal.returns-in-BadHead
unfolding digits phrase_of
returns-in-BadHead c = rw c.in-BadHead.is refl

pub returns-in-OutOfMemory : goal.returns-in-OutOfMemory
unfolding digits phrase_of
returns-in-OutOfMemory c = rw c.in-OutOfMemory.is refl
