use Rattle.grpc_sending.proofs.Agreeing.{stands_agreed, fit_agreed}
use Rattle.grpc_sending.proofs.laws.only_texts_of_ranges_matter.Goals as goal

pub returns-clause-stands : goal.returns-clause-stands
returns-clause-stands c = λ texts others w h d os. stands_agreed texts others w d os h

pub returns-clause-fit : goal.returns-clause-fit
returns-clause-fit c = fit_agreed
