pub mod CommandsLemmas
pub mod ProgramLemmas
pub mod LinesLemmas
pub mod CommandLinesLemmas
