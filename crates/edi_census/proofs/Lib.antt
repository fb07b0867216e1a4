pub mod JudgedMarks
pub mod LineOrRecord
pub mod ListedLines
pub mod NotedRules
pub mod PhaseByPhase
