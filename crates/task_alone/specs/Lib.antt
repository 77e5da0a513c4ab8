pub mod Setting
pub mod SettingOf
pub mod Alone
pub mod Visits
pub mod LoneRun
