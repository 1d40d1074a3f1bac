pub mod DeviceTime
