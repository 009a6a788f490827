pub mod Options
pub mod ClientOptions
pub mod DrawOptions
pub mod TraceOptions
pub mod CommandLine
pub mod Help
