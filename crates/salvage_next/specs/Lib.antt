pub mod Cued
