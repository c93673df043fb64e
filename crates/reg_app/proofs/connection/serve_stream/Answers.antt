use Rattle.reg_app.proofs.ServingLemmas.{asks_once}
use Rattle.reg_app.proofs.connection.serve_stream.Goals as goal

pub returns : goal.returns
returns g c = asks_once g.K.Keep _ _ _ _ _ _ _ _ _ c.serve_noted-served.ensures
