-- `reader::answer_to` meets its contract: a request is answered by its parameters, any other command by ACK. Assumes nothing.
use mathlib.Core.Path.{refl}
use Rattle.reader.specs.Reader.{is_request}
use Rattle.reader.proofs.Answering.{answers_request, answers_ack, no_request}
use Rattle.reader.proofs.answer_to.Goals as goal

pub returns-in-ParamRequest : goal.returns-in-ParamRequest
unfolding is_request
returns-in-ParamRequest c = let a = c.args in
    answers_request a.device a.command a.«data».now (rw c.in-ParamRequest.is refl) c.request.ensures

pub returns-in_default : goal.returns-in_default
returns-in_default c = let a = c.args in
    answers_ack a.device a.command a.«data».now (no_request a.command c.in_default.not-ParamRequest) c.ack.ensures
