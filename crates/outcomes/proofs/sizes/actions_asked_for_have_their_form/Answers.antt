use Rattle.outcomes.proofs.Forms.{request_form}
use Rattle.outcomes.proofs.sizes.actions_asked_for_have_their_form.Goals as goal

pub returns : goal.returns
returns c = request_form
