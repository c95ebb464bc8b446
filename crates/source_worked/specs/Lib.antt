-- Small programs, and what the contracts say of them.
pub mod ScopePrograms
pub mod TypedPrograms
pub mod StartPrograms
-- Devices, and the values that go in and out.
pub mod Devices
