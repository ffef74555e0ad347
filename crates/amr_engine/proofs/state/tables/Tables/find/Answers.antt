use Rattle.amr_engine.proofs.state.tables.Tables.find.Goals as goal

pub returns-in-OfMember : goal.returns-in-OfMember
returns-in-OfMember c = rw (c.in-OfMember.is, ← c.placements.ensures) c.number_in-in-OfMember.ensures

pub returns-in-OfTimer : goal.returns-in-OfTimer
returns-in-OfTimer c = rw (c.in-OfTimer.is, ← c.timers.ensures) c.number_in-in-OfTimer.ensures

pub returns-in-OfLog : goal.returns-in-OfLog
returns-in-OfLog c = rw c.in-OfLog.is c.number_in-in-OfLog.ensures
