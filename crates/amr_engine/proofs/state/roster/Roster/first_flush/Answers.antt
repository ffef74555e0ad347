use Rattle.amr_engine.proofs.state.roster.Roster.first_flush.Goals as goal

pub returns : goal.returns
returns c = rw (← c.self.view_is) c.first.ensures
