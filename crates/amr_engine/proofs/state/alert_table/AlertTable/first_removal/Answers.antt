use Rattle.amr_engine.proofs.state.alert_table.AlertTable.first_removal.Goals as goal

pub returns : goal.returns
returns c = rw (← c.self.view_is) c.first.ensures
