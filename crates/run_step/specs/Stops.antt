-- Why a step stops: the code's stops and document 01's, and their numbers.
pub use Rattle.tosses.specs.declared.Stop.{Stop}
pub use Rattle.tosses.specs.declared.Stop.TheVariants.{NoSuchTask, LogFull, TaskLost, TaskBlocked, TooMany, ValuesSpent, BadToss}
pub use Rattle.tosses.specs.Stops.{said, number_of, number_said}
