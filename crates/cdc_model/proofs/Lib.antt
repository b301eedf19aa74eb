pub mod RunRows
mod Worked
mod WorkedEntries
mod WorkedLogs
pub mod Members
pub mod OpenBranches
pub mod Marks
pub mod SoundFront
pub mod LogPrefix
pub mod KeyList
pub mod SettledKeys
pub mod GlobalOrder
pub mod OrderCut
pub mod PrintLength
pub mod ClosedFiles
pub mod Files
pub mod SameXid
pub mod GroupMachine
pub mod GroupRuns
pub mod GroupItems
pub mod GroupSteps
pub mod GroupReading
pub mod GroupOutcome
pub mod LogReading
pub mod Units
pub mod Openings
pub mod XidOrder
pub mod CommitLaws
pub mod FaultOrder
pub mod Fronts
pub mod OwnBranches
pub mod FeedLaws
pub mod EventLaws
pub mod RestOfLog
pub mod GrammarRows
pub mod SoundGrowth
pub mod OutputGrowth
pub mod Keeping
pub mod RestartPoints
pub mod RestartRest
pub mod RestartAgain
pub mod RestartOrder
pub mod OneFileEnd
pub mod NodeFeeds
mod WorkedLaws
mod WorkedRestart
pub mod Colons
pub mod NodePoints
